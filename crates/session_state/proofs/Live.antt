-- What is told by the live instances alone: which first round goes with a lost party, and which instances are live
-- once it is lost.
use Rattle.std.proofs.Common.{◌≡◌, ap, refl, ℕ, Bool, true, false, ◌&&◌, inl, inr, List, [], ◌∷◌, map, filter, Option}
use Rattle.std.specs.Option.{option_map}
use Rattle.std.proofs.lemmas.Bool.{cases_Bool}
use Rattle.proto_names.specs.Names.{same}
use Rattle.proto_names.specs.Instances.{lacks}
use Rattle.proto_names.specs.declared.signature.Signature.TheVariants.{Rlk2}
use Rattle.proto_names.specs.declared.instance.Instance.{Instance}
use Rattle.participants.specs.Live.{is_live, live_ones}
use Rattle.participants.proofs.Live.{void_waits}
use Rattle.session_rules.proofs.Live.{find_kept}
use Rattle.session_state.specs.Losings.{lacks_second, round1_of, first_lost, fails, stays, without}

and_no : (b c : Bool) → c ≡ false → (b && c) ≡ false
and_no true c e = e
and_no false c e = refl

void_second : (p : ℕ) (i : Instance) → is_live i ≡ false → lacks_second p i ≡ false
void_second p i e = and_no (same i.signature Rlk2) (lacks p i) (void_waits p i e)

pub first_live : (p : ℕ) (is : List Instance) → first_lost p (live_ones is) ≡ first_lost p is
unfolding first_lost live_ones
first_live p is = ap (option_map round1_of) (find_kept is_live (lacks_second p) (void_second p) is)

-- those that a loss leaves
pub live_left : (p : ℕ) (first : Option ℕ) (is : List Instance) → live_ones (map (without p first) is) ≡ filter (stays p first) (live_ones is)
unfolding live_ones
live_left p first [] = refl
live_left p first (i ∷ is) =
    let rest = live_left p first is in
    elim (cases_Bool (fails p first i)) [
      | inl gone ↦ elim (cases_Bool (is_live i)) [
        | inl live ↦ rw (gone, live, gone) rest
        | inr void ↦ rw (gone, void) rest
      ]
      | inr left ↦ elim (cases_Bool (is_live i)) [
        | inl live ↦ rw (left, live, left) (ap (λ (zs : List Instance). i ∷ zs) rest)
        | inr void ↦ rw (left, void) rest
      ]
    ]
