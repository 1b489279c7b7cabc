-- Those that are present are parties of the session, where those that join are.
use Rattle.std.proofs.Common.{◌≡◌, ◌∙◌, sym, ap, subst, ℕ, ◌-◌, ◌^◌, ◌<◌, ◌≤◌, true, nat_eq, nat_le, ◌&&◌, inl, inr, min, bit_and, w32, arith}
use Rattle.std.specs.Prelude.{⊤}
use Rattle.std.specs.Int.{bit_at, bit_not}
use Rattle.std.proofs.lemmas.Bool.{and_parts, and_from, eqb-true, eq-eqb}
use Rattle.std.proofs.lemmas.Nat.Bits.{bit_at_and, bit_at-lt}
use Rattle.share_spec.specs.Sets.{has}
use Rattle.proto_names.specs.Groups.{without_party}
use Rattle.session_rules.specs.declared.call.Call.{Call}
use Rattle.session_rules.specs.declared.call.Call.TheVariants as call
use Rattle.session_rules.specs.declared.reply.Reply.{Reply}
use Rattle.session_rules.specs.declared.deed.Deed.{Deed}
use Rattle.session_rules.specs.declared.deed.Deed.TheVariants.{Nothing, Joins, Loses, Counts, Gives, Turns}
use Rattle.session_rules.specs.declared.fixed.Fixed.{Fixed}
use Rattle.session_rules.specs.States.{State, opening}
use Rattle.session_rules.specs.Deeds.{changed}
use Rattle.session_rules.specs.Steps.{judge, step}
use Rattle.session_rules.specs.Allowed.{Allows}
use Rattle.session_rules.proofs.Judged.{judged}
use Rattle.session_rules.proofs.Stepwise.{done_beside}
use Rattle.session_rules.proofs.PartySets.{with_cases, has_nobody}
use Rattle.session_core.specs.Sessions.{IsParty, ArePresent}

-- a set without a party has none that the set has not
without_shrinks : (set p q : ℕ) → has (without_party set p) q ≡ true → has set q ≡ true
unfolding has without_party
without_shrinks set p q h =
    let mask = bit_not w32 (2 ^ (p - 1)) in
    let both = and_parts (nat_le 1 q && nat_le q 32) (nat_eq (bit_at (bit_and set mask) (q - 1)) 1) h in
    let one : bit_at (bit_and set mask) (q - 1) ≡ 1 = eqb-true (bit_at (bit_and set mask) (q - 1)) 1 both.1 in
    let bit : bit_at set (q - 1) ≡ 1 = only (bit_at set (q - 1)) (bit_at mask (q - 1)) (bit_at-lt set (q - 1)) (sym (bit_at_and set mask (q - 1)) ∙ one) in
    and_from (nat_le 1 q && nat_le q 32) (nat_eq (bit_at set (q - 1)) 1) both.0 (eq-eqb (bit_at set (q - 1)) 1 bit)
  where
    only : (x y : ℕ) → x < 2 → min x y ≡ 1 → x ≡ 1
    only x y l e = omega arith

-- who joins is one of n parties
abbrev pub JoinsOf : ℕ → Call → Type 0
JoinsOf n (call.Join p) = IsParty n p
JoinsOf n _ = ⊤

present_then : (n : ℕ) (f : Fixed) (s : State) (caller : ℕ) (c : Call) (r : Reply) (d : Deed) → JoinsOf n c → Allows f s caller c r d → ArePresent n s → ArePresent n (changed d s)
unfolding changed
present_then n f s caller c r Nothing among a h = h
present_then n f s caller c r (Joins p) among a h =
    let its : IsParty n p = subst (JoinsOf n) a.call among in
    λ q in_. elim (with_cases s.present p q its.0 in_) [
      | inl same ↦ subst (λ (z : ℕ). z ≤ n) (sym same) its.1
      | inr before ↦ h q before
    ]
present_then n f s caller c r (Loses p) among a h = λ q in_. h q (without_shrinks s.present p q in_)
present_then n f s caller c r (Counts i p) among a h = h
present_then n f s caller c r (Gives d k) among a h = h
present_then n f s caller c r (Turns d now) among a h = h

-- so they are after a call by which one of the parties joins, or none
pub still_present : (n : ℕ) (f : Fixed) (s t : State) (caller : ℕ) (c : Call) → JoinsOf n c → ArePresent n s → t ≡ (step f s caller c).1 → ArePresent n t
unfolding step
still_present n f s t caller c among h e =
    let v = judge f s caller c in
    let now = present_then n f s caller c v.reply v.deed among (judged f s caller c) h in
    subst (λ (z : ℕ). (p : ℕ) → has z p ≡ true → p ≤ n) (sym (ap (λ (z : State). z.present) e ∙ (done_beside f v.deed s).present)) now

-- at first nobody is
pub nobody_present : (n : ℕ) (f : Fixed) (s : State) → s ≡ opening f → ArePresent n s
unfolding opening
nobody_present n f s e p in_ =
    let none : has 0 p ≡ true = rw e at in_ in
    absurd (let no = has_nobody p in cc)
