-- What is defined for a circuit or an instance is the same in every longer history.
use Rattle.std.proofs.Common.{◌≡◌, ◌∙◌, ap, subst, ℕ, ◌-◌, ◌<◌, Bool, true, false, List, cond, length, get_or, Some, None, arith}
use Rattle.std.specs.Prelude.{nat_eq}
use Rattle.std.specs.List.{slice_get}
use Rattle.std.proofs.lemmas.Option.{slice_get-get_or, get_or_from_slice_get, slice_get_within}
use Rattle.ring_spec.specs.Pairs.{Key}
use Rattle.cipher_spec.specs.Keys.{Keys}
use Rattle.proto_names.specs.Roles.{Role, role_of}
use Rattle.proto_names.specs.Instances.{instance}
use Rattle.proto_names.specs.declared.instance.Instance.{Instance}
use Rattle.session_rules.specs.States.{State}
use Rattle.session_rules.specs.Facts.{IsSameLater, IsLater}
use Rattle.session_rules.proofs.Readiness.{ready_is}
use Rattle.session_rules.proofs.Keeps.{histories_keep}
use Rattle.session_rules.proofs.Grounds.{histories_ground}
use Rattle.session_rules.proofs.Runs.{later_ones_follow}
use Rattle.session_spec.specs.Settings.{Setting, rules}
use Rattle.session_spec.specs.Shares.{share_rows}
use Rattle.session_spec.specs.Outputs.{keys_in, input_of, polys_of, share_of}
use Rattle.session_laws.specs.Constancy.{HistoriesLeadOn, KeyStays, InputsStay, ReadyOnesStay, IssuedOnesStay}
use Rattle.session_laws.proofs.Beginnings.{rules_whole}
use Rattle.session_laws.proofs.Keys.{same_role, key_stays, circuit_stays, given_keyed, keyed, polys_stay}

pub histories_lead_on : HistoriesLeadOn
histories_lead_on w es more = record {
  kept = histories_keep (rules w) es;
  grounded = histories_ground (rules w) es (rules_whole w);
  kept_later = histories_keep (rules w) _;
  later = later_ones_follow (rules w) es more;
}

pub the_key_stays : KeyStays
the_key_stays w seeds s t y done = key_stays w seeds s t y.kept_later y.later done

pub inputs_stay : InputsStay
inputs_stay w seeds s t c k y given =
    ap (λ (z : Key). input_of w seeds z c k) (key_stays w seeds s t y.kept_later y.later (y.grounded.key c k given))

-- ---- a circuit that is ready

pub ready_ones_stay : ReadyOnesStay
ready_ones_stay w seeds s t c y e =
    let ready = ready_is (rules w) s c e in
    circuit_stays w seeds s t c y.kept_later y.later (given_keyed w s c y.grounded ready.given) ready.keys

-- ---- an instance

-- its place in a list; what stands at that place of another list has its number there
placed : (is : List Instance) (id : ℕ) (i : Instance) → instance is id ≡ Some i → slice_get is (id - 1) ≡ Some i
unfolding instance
placed is id i e = at (nat_eq id 0) e
  where
    at : (none : Bool) → cond none None (slice_get is (id - 1)) ≡ Some i → slice_get is (id - 1) ≡ Some i
    at true e = cc
    at false e = e

numbered_there : (is others : List Instance) (id : ℕ) (i now : Instance) → instance is id ≡ Some i → slice_get others (id - 1) ≡ Some now → instance others id ≡ Some now
unfolding instance
numbered_there is others id i now e there = at (nat_eq id 0) e
  where
    at : (none : Bool) → cond none None (slice_get is (id - 1)) ≡ Some i → cond none None (slice_get others (id - 1)) ≡ Some now
    at true e = cc
    at false e = there

-- the same instance that is told the same has the same shares
same_shares : (w : Setting) (seeds : List (List ℕ)) (keys other : ℕ → Keys) (i now : Instance) (j : ℕ) → role_of i ≡ role_of now → polys_of w seeds keys (role_of i) ≡ polys_of w seeds other (role_of now)
    → share_of w seeds keys i j ≡ share_of w seeds other now j
unfolding share_of
same_shares w seeds keys other i now j role polys =
    ap (λ (z : List (List ℕ)). share_rows w seeds (role_of i) z j) polys
    ∙ ap (λ (z : Role). share_rows w seeds z (polys_of w seeds other (role_of now)) j) role

-- an instance that is issued is there later under its number
pub record FoundLater (t : State) (id : ℕ) (i : Instance) : Type 0 where
  pub now : Instance
  pub there : instance t.instances id ≡ Some now
  pub same : IsSameLater i now

pub found_later : (s t : State) (id : ℕ) (i : Instance) → IsLater s t → instance s.instances id ≡ Some i → FoundLater t id i
found_later s t id i later issued =
    let place = id - 1 in
    let here = placed s.instances id i issued in
    let below : place < length s.instances = slice_get_within s.instances place i here in
    let at = get_or_from_slice_get s.instances place i i here in
    let longer = later.issued in
    let now = get_or t.instances place i in
    let there : slice_get t.instances place ≡ Some now = slice_get-get_or t.instances place i (omega arith) in
    record {
      now = now;
      there = numbered_there s.instances t.instances id i now issued there;
      same = subst (λ (z : Instance). IsSameLater z now) at (later.same place i below);
    }

pub issued_ones_stay : IssuedOnesStay
issued_ones_stay w seeds s t id i y issued =
    let place = id - 1 in
    let here = placed s.instances id i issued in
    let below : place < length s.instances = slice_get_within s.instances place i here in
    let at = get_or_from_slice_get s.instances place i i here in
    let x = found_later s t id i y.later issued in
    let role = same_role i x.now x.same in
    let polys = polys_stay w seeds s t i y.kept (keyed w s y.grounded) y.kept_later y.later (place, below, at)
    ∙ ap (λ (z : Role). polys_of w seeds (keys_in w seeds t.instances) z) role in (
      x.now,
      x.there,
      record {
        polys = polys;
        shares = λ j. same_shares w seeds (keys_in w seeds s.instances) (keys_in w seeds t.instances) i x.now j role polys;
      },
    )
