-- The complete instance of the public key: there is at most one.
use Rattle.std.proofs.Common.{◌≡◌, ◌∙◌, sym, ap, refl, ℕ, List, [], slice_index_or, Contains, find, Option, Some, None}
use Rattle.std.proofs.lemmas.Bool.{both_ways}
use Rattle.std.specs.Option.{option_map}
use Rattle.proto_names.specs.Instances.{is_done}
use Rattle.proto_names.specs.declared.signature.Signature.TheVariants.{Pk}
use Rattle.proto_names.specs.declared.instance.Instance.{Instance}
use Rattle.session_rules.specs.declared.fixed.Fixed.{Fixed}
use Rattle.session_rules.specs.States.{State}
use Rattle.session_rules.specs.Facts.{Kept}
use Rattle.session_rules.proofs.Contained.{find_some, find_none}
use Rattle.session_rules.proofs.Marks.{IsDone, done_is, done_from, complete_lives, one_number}
use Rattle.session_spec.specs.Settings.{Setting}
use Rattle.session_spec.specs.Stores.{Store, held_sums, key_by, held_key}
use Rattle.session_spec.specs.Outputs.{done_instance, key_instance}
use Rattle.bfv_spec.specs.Shares.{pk_from}

found_is : (f : Fixed) (s : State) (j : Instance) → Kept f s → Contains s.instances j → IsDone Pk j → (o : Option Instance) → find (is_done Pk) s.instances ≡ o → o ≡ Some j
found_is f s j k m d None e = absurd (both_ways (is_done Pk j) (find_none (is_done Pk) s.instances j e m) (done_from Pk j d))
found_is f s j k m d (Some x) e =
    let at = find_some (is_done Pk) s.instances x e in
    let c = done_is Pk x at.1 in
    let ids : x.id ≡ j.id = k.one x j at.0 m (c.signature ∙ sym d.signature) (complete_lives x c.complete) (complete_lives j d.complete) in
    ap Some (one_number s.instances x j k.numbered at.0 m ids)

-- where one is complete it is that
pub key_is : (f : Fixed) (s : State) (j : Instance) → Kept f s → Contains s.instances j → IsDone Pk j → key_instance s.instances ≡ Some j
unfolding done_instance
key_is f s j k m d = found_is f s j k m d (find (is_done Pk) s.instances) refl

-- the same ones of two lists are complete keys
pub record SameKeys (is now : List Instance) : Type 0 where
  pub stays : (j : Instance) → Contains is j → IsDone Pk j → Contains now j
  pub was : (j : Instance) → Contains now j → IsDone Pk j → Contains is j

none_now : (is now : List Instance) → SameKeys is now → find (is_done Pk) is ≡ None → (o : Option Instance) → find (is_done Pk) now ≡ o → o ≡ None
none_now is now same none None e = refl
none_now is now same none (Some x) e =
    let at = find_some (is_done Pk) now x e in
    absurd (both_ways (is_done Pk x) (find_none (is_done Pk) is x none (same.was x at.0 (done_is Pk x at.1))) at.1)

pub record KeyIn (is : List Instance) (j : Instance) : Type 0 where
  pub within : Contains is j
  pub done : IsDone Pk j

pub key_within : (is : List Instance) (j : Instance) → key_instance is ≡ Some j → KeyIn is j
unfolding done_instance
key_within is j e = let at = find_some (is_done Pk) is j e in record { within = at.0; done = done_is Pk j at.1 }

same_found : (f : Fixed) (t : State) (is : List Instance) → Kept f t → SameKeys is t.instances → (o : Option Instance) → find (is_done Pk) is ≡ o → find (is_done Pk) t.instances ≡ o
same_found f t is k same None e = none_now is t.instances same e (find (is_done Pk) t.instances) refl
same_found f t is k same (Some j) e =
    let at = find_some (is_done Pk) is j e in
    found_is f t j k (same.stays j at.0 (done_is Pk j at.1)) (done_is Pk j at.1) (find (is_done Pk) t.instances) refl

pub same_key : (f : Fixed) (t : State) (is : List Instance) → Kept f t → SameKeys is t.instances → key_instance t.instances ≡ key_instance is
unfolding done_instance
same_key f t is k same = same_found f t is k same (find (is_done Pk) is) refl

-- and the key that is held is the same, where their sums are
same_by : (w : Setting) (h g : Store) (o : Option Instance) → ((j : Instance) → o ≡ Some j → held_sums g j.id ≡ held_sums h j.id) → option_map (key_by w g) o ≡ option_map (key_by w h) o
same_by w h g None same = refl
same_by w h g (Some j) same = ap (λ (sums : List (List ℕ)). Some (pk_from w.numbers.q w.numbers.n w.public j.id (slice_index_or sums 0 []))) (same j refl)

pub same_held : (f : Fixed) (w : Setting) (h g : Store) (t : State) (is : List Instance) → Kept f t → SameKeys is t.instances
    → ((j : Instance) → key_instance is ≡ Some j → held_sums g j.id ≡ held_sums h j.id) → held_key w g t.instances ≡ held_key w h is
unfolding held_key
same_held f w h g t is k same sums =
    ap (option_map (key_by w g)) (same_key f t is k same) ∙ same_by w h g (key_instance is) sums
