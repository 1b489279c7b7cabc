-- The keys that the sums of complete instances make are those of honest parties.
use Rattle.std.proofs.Common.{◌≡◌, ◌∙◌, sym, ap, ap₂, refl, ℕ, cond, List, [], ◌∷◌, map, slice_index_or, Option, Some, None}
use Rattle.bfv_spec.specs.Shares.{pk_from}
use Rattle.gadget_spec.specs.Switching.{KeyRow}
use Rattle.key_spec.specs.Relinearisation.{relin_key}
use Rattle.key_spec.specs.Rotations.{rotation_key}
use Rattle.ring_spec.specs.Pairs.{Key}
use Rattle.cipher_spec.specs.Keys.{RotationKey}
use Rattle.proto_names.specs.Roles.{role_of}
use Rattle.proto_names.specs.declared.signature.Signature.{Signature}
use Rattle.proto_names.specs.declared.signature.Signature.TheVariants.{Pk, Rlk2, Rot}
use Rattle.proto_names.specs.declared.instance.Instance.{Instance}
use Rattle.param_set.specs.declared.params.Params.{Params}
use Rattle.session_rules.specs.States.{State, plan}
use Rattle.session_rules.proofs.Marks.{complete_lives}
use Rattle.session_spec.specs.Settings.{Setting, rules, gadget}
use Rattle.session_spec.specs.Shares.{full_sums, key_of, relin_rows, rotation_rows}
use Rattle.session_spec.specs.Outputs.{done_instance, key_from, key_in, relin_from, relin_in, rotation_from, rotation_in, keys_in, told_by}
use Rattle.session_spec.specs.Stores.{Store, held_sums, key_by, key_or, relin_or, rotation_or, held_rotation, held_keys}
use Rattle.session_laws.specs.Laws.{Stands, HeldKeysAreKeys, CircuitsHaveTheirKeys}
use Rattle.session_laws.proofs.Keys.{found_is, key_at}
use Rattle.session_laws.proofs.Holding.{Holds, holds_from, full_sums_held, first_sums_held, told_at}

module _ (p : Params) (w : Setting) (seeds : List (List ℕ)) (s : State) (h : Store) (y : Stands p w seeds s h) where
  held : Holds w seeds s h
  held = holds_from w seeds s h y.kept.numbered y.honest

  -- the sums of the complete instance of a signature
  done_sums : (σ : Signature) (i : Instance) → done_instance σ s.instances ≡ Some i → held_sums h i.id ≡ full_sums w seeds (role_of i) (told_by w seeds (keys_in w seeds s.instances) σ (role_of i))
  done_sums σ i found =
      let both = found_is σ s.instances i found in
      full_sums_held w seeds s h i y.kept held both.0 both.1.complete ∙ ap (full_sums w seeds (role_of i)) (told_at w seeds (keys_in w seeds s.instances) i σ both.1.signature)

  pub key_made : (i : Instance) → done_instance Pk s.instances ≡ Some i → key_by w h i ≡ key_of w seeds (role_of i)
  unfolding key_of told_by
  key_made i found = ap (λ (z : List (List ℕ)). pk_from w.numbers.q w.numbers.n w.public i.id (slice_index_or z 0 [])) (done_sums Pk i found)

  relin_made : (i : Instance) → done_instance Rlk2 s.instances ≡ Some i → relin_or w h (Some i) ≡ relin_rows w seeds (role_of i)
  unfolding relin_rows told_by
  relin_made i found =
      let both = found_is Rlk2 s.instances i found in
      let d = both.1 in
      let x = y.kept.rounds i both.0 d.signature (complete_lives i d.complete) in
      let first = first_sums_held w seeds s h i x.first y.kept held x.issued x.signature x.complete x.id x.set in
      ap₂ (relin_key w.numbers.q w.numbers.n (gadget w)) first (done_sums Rlk2 i found)

  rotation_made : (g : ℕ) (i : Instance) → done_instance (Rot g) s.instances ≡ Some i → rotation_or w h (Some i) ≡ rotation_rows w seeds (role_of i)
  unfolding rotation_rows told_by
  rotation_made g i found = ap (rotation_key w.numbers.q w.numbers.n (gadget w) w.public i.id) (done_sums (Rot g) i found)

  -- where there may be none

  key_held : (o : Option Instance) → done_instance Pk s.instances ≡ o → key_or w h o ≡ key_from w seeds o
  key_held None found = refl
  key_held (Some i) found = key_made i found

  relin_held : (o : Option Instance) → done_instance Rlk2 s.instances ≡ o → relin_or w h o ≡ relin_from w seeds o
  relin_held None found = refl
  relin_held (Some i) found = relin_made i found

  rotation_held : (g : ℕ) (o : Option Instance) → done_instance (Rot g) s.instances ≡ o → rotation_or w h o ≡ rotation_from w seeds o
  rotation_held g None found = refl
  rotation_held g (Some i) found = rotation_made g i found

  rotations_held : (turns : List ℕ) → map (held_rotation w h s.instances) turns ≡ map (rotation_in w seeds s.instances) turns
  unfolding rotation_in
  rotations_held [] = refl
  rotations_held (g ∷ turns) =
      ap₂ (λ (z : List KeyRow) (rest : List RotationKey). record { g = g; rows = z } ∷ rest) (rotation_held g (done_instance (Rot g) s.instances) refl) (rotations_held turns)

  pub keys_held : (c : ℕ) → held_keys w h s.instances c ≡ keys_in w seeds s.instances c
  unfolding held_keys keys_in key_in relin_in
  keys_held c =
      let x = plan (rules w) c in
      ap (λ (z : Key). record { public = z; relin = cond x.product (relin_or w h (done_instance Rlk2 s.instances)) []; rotations = map (held_rotation w h s.instances) x.turns }) (key_held (done_instance Pk s.instances) refl)
      ∙ ap₂ (λ (z : List KeyRow) (rest : List RotationKey). record { public = key_in w seeds s.instances; relin = cond x.product z []; rotations = rest }) (relin_held (done_instance Rlk2 s.instances) refl) (rotations_held x.turns)

pub held_keys_are_keys : HeldKeysAreKeys
held_keys_are_keys p w seeds s h i y found = key_made p w seeds s h y i found ∙ sym (key_at w seeds s.instances i found)

pub circuits_have_their_keys : CircuitsHaveTheirKeys
circuits_have_their_keys p w seeds s h c y l = keys_held p w seeds s h y c
