-- What the counting of a share makes of the instances, the circuits and the store.
use Rattle.std.proofs.Common.{◌≡◌, ◌≢◌, ◌∙◌, sym, ap, subst, refl, ℕ, ◌-◌, ◌<◌, List, [], length, Contains, arith}
use Rattle.std.proofs.lemmas.List.{get_or-set_same, get_or-set_other, length-map}
use Rattle.cipher_spec.specs.Keys.{Keys}
use Rattle.proto_names.specs.Groups.{with_party}
use Rattle.proto_names.specs.Instances.{with_share, counted_at, after_share}
use Rattle.proto_names.specs.Roles.{Role, role_of}
use Rattle.proto_names.specs.declared.instance.Instance.{Instance}
use Rattle.proto_names.specs.declared.instance.Stage.TheVariants.{Opened}
use Rattle.instance_table.specs.Tables.{rows_sum, after_rows}
use Rattle.param_set.specs.declared.params.Params.{Params}
use Rattle.session_rules.specs.States.{State}
use Rattle.session_rules.specs.Facts.{Kept, IsLater}
use Rattle.session_rules.proofs.Marks.{numbered_at, one_number, opened_lives}
use Rattle.session_rules.proofs.PartySets.{has_party}
use Rattle.session_rules.proofs.Keeps.{Waits}
use Rattle.session_rules.proofs.Within.{CountedFrom, itself, another, counted_from}
use Rattle.session_spec.specs.Settings.{Setting, rules}
use Rattle.session_spec.specs.Shares.{sum_rows, share_rows}
use Rattle.session_spec.specs.Outputs.{keys_in, polys_of, share_of, sums_of}
use Rattle.session_spec.specs.Stores.{Store, held_polys, held_sums, with_rows}
use Rattle.session_laws.specs.Laws.{Stands}
use Rattle.session_laws.proofs.Keys.{keyed, polys_stay}
use Rattle.session_laws.proofs.Totals.{more_sums}
use Rattle.session_laws.proofs.Holding.{Told, Summed, Holds, holds_from, setting_modulus, sums_stay}

module _ (p : Params) (w : Setting) (seeds : List (List ℕ)) (s : State) (h : Store) (i : Instance) (party : ℕ) (rows : List (List ℕ)) (y : Stands p w seeds s h) (its : Waits s i party)
    (honest : rows ≡ share_of w seeds (keys_in w seeds s.instances) i party) where
  abbrev instances : List Instance
  instances = after_share i.id party s.instances

  abbrev keys : ℕ → Keys
  keys = keys_in w seeds s.instances

  abbrev added : Store
  added = with_rows w i.id rows h

  abbrev itself_then : Instance
  itself_then = with_share party i

  issued : Contains s.instances i
  issued = its.within

  opened_still : i.stage ≡ Opened
  opened_still = its.opened

  counted_of : (j : Instance) → Contains instances j → CountedFrom s.instances i party j
  counted_of j m = counted_from s.instances i j party (λ a n e. one_number s.instances a i y.kept.numbered n issued e) m

  pub instances_number : length instances ≡ length s.instances
  unfolding after_share
  instances_number = length-map s.instances (counted_at i.id party)

  -- ---- the sums

  abbrev polys : List (List ℕ)
  polys = polys_of w seeds keys (role_of i)

  held_holds : Holds w seeds s h
  held_holds = holds_from w seeds s h (y.kept.numbered) y.honest

  place : i.id - 1 < length h.sums
  place =
      let at = numbered_at s.instances i y.kept.numbered issued in
      let l = issued.1 in
      let matches = y.matches in
      let many = matches.sums in
      omega arith

  was_sums : held_sums h i.id ≡ sum_rows w seeds (role_of i) polys i.sent.bits
  unfolding sums_of
  was_sums = held_holds.sums i issued (opened_lives i opened_still)

  share_is : rows ≡ share_rows w seeds (role_of i) polys party
  unfolding share_of
  share_is = honest

  -- those of the instance are those of one more party
  pub added_sums : held_sums added i.id ≡ sum_rows w seeds (role_of i) polys (with_party i.sent.bits party)
  unfolding with_rows after_rows
  added_sums =
      let q = w.numbers.q in let n = w.numbers.n in
      let range = has_party i.set.bits party its.member in
      get_or-set_same h.sums (i.id - 1) (rows_sum q n (held_sums h i.id) rows) [] place
      ∙ ap (λ (z : List (List ℕ)). rows_sum q n z rows) was_sums
      ∙ ap (rows_sum q n (sum_rows w seeds (role_of i) polys i.sent.bits)) share_is
      ∙ more_sums w seeds (role_of i) polys i.sent.bits party (setting_modulus p w y.setting) range.0 range.1 its.unsent

  -- and those of another one are what they were
  other_sums : (j : Instance) → Contains s.instances j → j.id ≢ i.id → held_sums added j.id ≡ held_sums h j.id
  unfolding with_rows after_rows
  other_sums j m other =
      let a = numbered_at s.instances i y.kept.numbered issued in
      let b = numbered_at s.instances j y.kept.numbered m in
      get_or-set_other h.sums (i.id - 1) (j.id - 1) (rows_sum w.numbers.q w.numbers.n (held_sums h i.id) rows) [] (λ e. other (omega arith))

  share_sums : (other : ℕ → Keys) → polys ≡ polys_of w seeds other (role_of i) → sum_rows w seeds (role_of i) polys (with_party i.sent.bits party) ≡ sums_of w seeds other itself_then
  unfolding sums_of with_share
  share_sums other e = ap (λ (z : List (List ℕ)). sum_rows w seeds (role_of i) z (with_party i.sent.bits party)) e

  share_kept : role_of itself_then ≡ role_of i
  unfolding with_share
  share_kept = refl

  -- ---- a later state with these instances

  module _ (t : State) (same : t.instances ≡ instances) (then_ : Kept (rules w) t) (later : IsLater s t) where
    abbrev now : ℕ → Keys
    now = keys_in w seeds t.instances

    its_polys : polys ≡ polys_of w seeds now (role_of i)
    its_polys = polys_stay w seeds s t i y.kept (keyed w s y.grounded) then_ later issued

    pub counted_told : Told w seeds now added t.instances
    unfolding with_rows
    counted_told j m alive = elim (counted_of j (subst (λ (z : List Instance). Contains z j) same m)) [
      | itself it ↦
          let role : role_of j ≡ role_of i = ap (λ (z : Instance). role_of z) it ∙ share_kept in
          ap (λ (z : Role). held_polys h z.id) role ∙ held_holds.told i issued (opened_lives i opened_still) ∙ its_polys ∙ ap (λ (z : Role). polys_of w seeds now z) (sym role)
      | another n other ↦ held_holds.told j n alive ∙ polys_stay w seeds s t j y.kept (keyed w s y.grounded) then_ later n
    ]

    pub counted_sums : Summed w seeds now added t.instances
    counted_sums j m alive = elim (counted_of j (subst (λ (z : List Instance). Contains z j) same m)) [
      | itself it ↦
          let role : role_of j ≡ role_of i = ap (λ (z : Instance). role_of z) it ∙ share_kept in
          ap (λ (z : Role). held_sums added z.id) role ∙ added_sums ∙ share_sums now its_polys ∙ ap (sums_of w seeds now) (sym it)
      | another n other ↦
          other_sums j n other ∙ held_holds.sums j n alive
          ∙ sums_stay w seeds keys now j (polys_stay w seeds s t j y.kept (keyed w s y.grounded) then_ later n)
    ]
