-- What is told by the live instances alone: void ones wait for nobody.
use Rattle.std.proofs.Common.{◌≡◌, ◌∙◌, sym, ap, refl, ℕ, ◌+◌, Bool, false, not, ◌&&◌, cond, inl, inr, List, [], ◌∷◌, length, filter, count_by}
use Rattle.std.proofs.lemmas.Bool.{cases_Bool}
use Rattle.std.proofs.lemmas.List.Sums.{length-filter}
use Rattle.share_spec.specs.Sets.{has}
use Rattle.proto_names.specs.Names.{is_opened, is_void}
use Rattle.proto_names.specs.Instances.{lacks}
use Rattle.proto_names.specs.declared.instance.Instance.{Instance}
use Rattle.proto_names.specs.declared.instance.Stage.{Stage}
use Rattle.proto_names.specs.declared.instance.Stage.TheVariants.{Opened, Complete, Void}
use Rattle.participants.specs.Loads.{load, loads_of}
use Rattle.participants.specs.Live.{is_live, live_ones}
use Rattle.participants.proofs.Raising.{all_32, length_loads, load_at}

-- where none that fails a test passes another, those that pass that other are as before without them
pub filter_kept : {X : Type 0} (keep test : X → Bool) → ((x : X) → keep x ≡ false → test x ≡ false) → (xs : List X) → filter test (filter keep xs) ≡ filter test xs
filter_kept keep test h [] = refl
filter_kept {X} keep test h (x ∷ xs) =
    let more = filter_kept keep test h xs in
    elim (cases_Bool (keep x)) [
      | inl e ↦ rw e (ap (λ (zs : List X). cond (test x) (x ∷ zs) zs) more)
      | inr e ↦ rw (e, h x e) more
    ]

pub count_kept : {X : Type 0} (keep test : X → Bool) → ((x : X) → keep x ≡ false → test x ≡ false) → (xs : List X) → count_by test (filter keep xs) ≡ count_by test xs
count_kept keep test h xs = sym (length-filter test (filter keep xs)) ∙ ap length (filter_kept keep test h xs) ∙ length-filter test xs

-- a void instance waits for nobody
pub void_waits : (p : ℕ) (i : Instance) → is_live i ≡ false → lacks p i ≡ false
unfolding lacks
void_waits p i e = at i.stage e
  where
    at : (s : Stage) → not (is_void s) ≡ false → (is_opened s && has i.set.bits p && not (has i.sent.bits p)) ≡ false
    at Opened e = cc
    at Complete e = cc
    at (Void by) e = refl

pub load_live : (is : List Instance) (p : ℕ) → load (live_ones is) p ≡ load is p
unfolding load live_ones
load_live is p = count_kept is_live (lacks p) (void_waits p) is

pub loads_live : (is : List Instance) → loads_of (live_ones is) ≡ loads_of is
unfolding loads_of
loads_live is = all_32 (load is) (loads_of (live_ones is)) (length_loads (live_ones is)) (λ k l. load_at (live_ones is) k l ∙ load_live is (k + 1))
