-- Each turn puts the sum of two rows behind the others.
use Rattle.std.proofs.Common.{◌≡◌, ◌∙◌, sym, ap, subst, refl, ℕ, List, [], ◌∷◌, ◌++◌, map, length, get_or, All, arith, rules}
use Rattle.std.specs.List.{range_with_len}
use Rattle.std.proofs.lemmas.List.Elements.{All-push}
use Rattle.std.proofs.lemmas.List.FromFn.{map-range_with_len_more, length-map-range_with_len}
use Rattle.ring_spec.specs.Ring.{IsPoly, ring_sum}
use Rattle.instance_table.specs.Tables.{row_sum, rows_sum}
use Rattle.session_state.proofs.completing.with_rows_of.Goals as goal

pub rows-init : goal.rows-init
rows-init c = record { sums_are = c.new-sums.ensures; fit = rw c.new-sums.ensures (search rules) }

-- row k of two lists, added
row_is : (q n : ℕ) (fs gs : List (List ℕ)) (k : ℕ) (acc row f g : List ℕ) → acc ≡ ring_sum q n row g → row ≡ f → f ≡ get_or fs k [] → g ≡ get_or gs k []
    → acc ≡ row_sum q n fs gs k
unfolding row_sum
row_is q n fs gs k acc row f g a b c d = rw (a, b, c, d) refl

pub rows-preserved : goal.rows-preserved
rows-preserved c =
    let p = c.args.ring.now.params in
    let k = c.rows.place in
    let sum = row_sum p.q p.n c.args.held.now c.args.rows.now in
    let new = c.add_into.new.acc in
    let here : new ≡ sum k = row_is p.q p.n c.args.held.now c.args.rows.now k new c.in_ok-row.row c.at.result.now c.at-in-rows.result.now
    c.add_into.ensures.value c.in_ok-row.ensures.value c.at.ensures c.at-in-rows.ensures in
    record {
      sums_are = c.in_ok-push.ensures.ok ∙ ap (λ (ps : List (List ℕ)). ps ++ new ∷ []) c.rows.invariant.sums_are
          ∙ ap (λ (r : List ℕ). map sum (range_with_len 0 k) ++ r ∷ []) here ∙ sym (map-range_with_len_more sum 0 k k (omega arith));
      fit = subst (All (IsPoly p.q p.n)) (sym c.in_ok-push.ensures.ok) (All-push (IsPoly p.q p.n) c.rows.sums new c.rows.invariant.fit c.add_into.ensures.fits);
    }

pub returns-clause-value : goal.returns-clause-value
unfolding rows_sum
returns-clause-value c =
    let p = c.args.ring.now.params in
    let all : c.rows.place ≡ length c.args.held.now = omega arith in
    c.rows.invariant.sums_are ∙ ap (λ (m : ℕ). map (row_sum p.q p.n c.args.held.now c.args.rows.now) (range_with_len 0 m)) all

pub returns-clause-number : goal.returns-clause-number
returns-clause-number c =
    let p = c.args.ring.now.params in
    let all : c.rows.place ≡ length c.args.held.now = omega arith in
    ap length c.rows.invariant.sums_are ∙ length-map-range_with_len (row_sum p.q p.n c.args.held.now c.args.rows.now) 0 c.rows.place ∙ all
