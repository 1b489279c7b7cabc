-- The loop has added the product of each row.
use Rattle.std.proofs.Common.{◌≡◌, ℕ, ◌<◌, ◌∙◌, List, length, get_or, sym, subst, ap, arith}
use Rattle.param_set.specs.Moduli.{digit_rows}
use Rattle.param_set.specs.declared.params.Params.{Params}
use Rattle.std.proofs.lemmas.Result.{IfOk-weaker}
use Rattle.gadget_spec.specs.Digits.{digit_poly}
use Rattle.gadget_spec.specs.Switching.{KeyRow, row_at, key_switch}
use Rattle.gadget_laws.specs.Totals.{product_b, product_a}
use Rattle.ring_spec.specs.Ring.{ring_product}
use Rattle.ring_spec.specs.Pairs.{Cipher}
use Rattle.gadget_keys.specs.declared.key_row.Row.{Row}
use Rattle.gadget_keys.specs.Gadgets.{gadget_of}
use Rattle.gadget_keys.specs.Keys.{RingKey, RowFits, RowsFit, stands_for, kept_rows}
use Rattle.gadget_keys.proofs.Places.{rows_few}
use Rattle.gadget_keys.proofs.Kept.{kept_at, kept_length}
use Rattle.gadget_keys.proofs.Totals.{none_so_far, more_so_far, all_rows}
use Rattle.gadget_keys.proofs.switching.switch.Goals as goal

some : (p : Params) → 0 < p.q
some p = omega (arith, p.modulus.0)

pub rows-init : goal.rows-init
rows-init c =
    let p = c.args.ring.now.params in let g = gadget_of p in let rows = c.args.key.now.rows in
    record {
      places = c.in_ok-digits.ensures.fits.entries;
      fits = c.in_ok-sums.ensures.fits;
      b = c.in_ok-sums.ensures.b ∙ none_so_far p.q p.n (product_b p.q p.n g rows c.args.f.now) (some p);
      a = c.in_ok-sums.ensures.a ∙ none_so_far p.q p.n (product_a p.q p.n g rows c.args.f.now) (some p);
    }

-- the rows that are kept, as those of the key
same_params : (key : RingKey) (p inside : Params) (rows : List Row) → record { params = inside; rows = kept_rows rows } ≡ key → key.params ≡ p → inside ≡ p
same_params key p inside rows e is = ap (λ (x : RingKey). x.params) e ∙ is

kept_count : (key : RingKey) (p inside : Params) (rows : List Row) → record { params = inside; rows = kept_rows rows } ≡ key → key.params ≡ p → RowsFit inside rows →
    length rows ≡ digit_rows p.q p.digit_bits
kept_count key p inside rows e is fit = fit.count ∙ ap (λ (x : Params). digit_rows x.q x.digit_bits) (same_params key p inside rows e is)

key_at : (key : RingKey) (inside : Params) (rows : List Row) (i : ℕ) (row : Row) → record { params = inside; rows = kept_rows rows } ≡ key → i < length rows → row ≡ get_or rows i row →
    row_at key.rows i ≡ stands_for row
key_at key inside rows i row e l is = ap (λ (x : List KeyRow). row_at x i) (sym (ap (λ (x : RingKey). x.rows) e)) ∙ kept_at rows i row l is

key_length : (key : RingKey) (inside : Params) (rows : List Row) → record { params = inside; rows = kept_rows rows } ≡ key → length key.rows ≡ length rows
key_length key inside rows e = ap (λ (x : List KeyRow). length x) (sym (ap (λ (x : RingKey). x.rows) e)) ∙ kept_length rows

pub overflow_cast-i : goal.overflow_cast-i
overflow_cast-i c =
    let p = c.args.ring.now.params in
    let count = kept_count c.args.key.now p c.key.inside.params c.key.inside.rows.items c.key.view_is c.requires.key c.key.invariant in
    omega (arith, c.rows-test.true, count, rows_few p, c.len-i-end.ensures)

pub add-requires-clause-room : goal.add-requires-clause-room
add-requires-clause-room c =
    let p = c.args.ring.now.params in
    let count = kept_count c.args.key.now p c.key.inside.params c.key.inside.rows.items c.key.view_is c.requires.key c.key.invariant in
    omega (arith, c.rows-test.true, count, rows_few p, c.len-i-end.ensures)

pub add-requires-clause-row : goal.add-requires-clause-row
add-requires-clause-row c =
    let p = c.args.ring.now.params in let row = c.index.result.now in let rows = c.key.inside.rows.items in
    let within : c.rows.i < length rows = omega (arith, c.rows-test.true, c.len-i-end.ensures) in
    let fits : RowFits c.key.inside.params row =
    subst (RowFits c.key.inside.params) (sym c.index.ensures) (c.key.invariant.each c.rows.i row within) in
    subst (λ (x : Params). RowFits x row) (same_params c.args.key.now p c.key.inside.params rows c.key.view_is c.requires.key) fits

pub rows-preserved : goal.rows-preserved
rows-preserved c =
    let p = c.args.ring.now.params in let g = gadget_of p in let key = c.args.key.now in let f = c.args.f.now in
    let row = c.index.result.now in let rows = c.key.inside.rows.items in let i = c.rows.i in let d = c.in_ok-values.values.poly in
    let within : i < length rows = omega (arith, c.rows-test.true, c.len-i-end.ensures) in
    let at : row_at key.rows i ≡ stands_for row = key_at key c.key.inside.params rows i row c.key.view_is within c.index.ensures in
    let digits : d ≡ digit_poly p.q p.n g f i = c.in_ok-values.ensures.value ∙ c.digit_into.ensures.value in
    record {
      places = c.digit_into.ensures.fits.entries;
      fits = c.add.ensures.fits;
      b = more_so_far p.q p.n (product_b p.q p.n g key.rows f) i d row.b.poly c.add.new.self.b.value.poly c.rows.sums.b.value.poly (some p) c.rows.invariant.b
          (ap (λ (x : List ℕ). ring_product p.q p.n x (row_at key.rows i).b) (sym digits) ∙ ap (λ (x : KeyRow). ring_product p.q p.n d x.b) at) c.add.ensures.b;
      a = more_so_far p.q p.n (product_a p.q p.n g key.rows f) i d row.a.poly c.add.new.self.a.value.poly c.rows.sums.a.value.poly (some p) c.rows.invariant.a
          (ap (λ (x : List ℕ). ring_product p.q p.n x (row_at key.rows i).a) (sym digits) ∙ ap (λ (x : KeyRow). ring_product p.q p.n d x.a) at) c.add.ensures.a;
    }

pub returns-clause-value : goal.returns-clause-value
returns-clause-value c =
    let p = c.args.ring.now.params in let g = gadget_of p in let key = c.args.key.now in let rows = c.key.inside.rows.items in
    let sums = c.rows.sums in
    let count = kept_count key p c.key.inside.params rows c.key.view_is c.requires.key c.key.invariant in
    let end : c.rows.i ≡ digit_rows p.q p.digit_bits = omega (arith, c.rows-test.false, c.rows.auto.i-end, c.len-i-end.ensures, count) in
    IfOk-weaker c.into_ciphertext.result (λ (x : Cipher). x ≡ record { c0 = sums.b.value.poly; c1 = sums.a.value.poly }) (λ (x : Cipher). x ≡ key_switch p.q p.n g key.rows c.args.f.now)
    (λ (x : Cipher) e. all_rows p.q p.n g key.rows c.args.f.now sums.b.value.poly sums.a.value.poly x c.rows.i (some p)
    (key_length key c.key.inside.params rows c.key.view_is ∙ count) end c.rows.invariant.b c.rows.invariant.a e) c.into_ciphertext.ensures.value
