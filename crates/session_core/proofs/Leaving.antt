-- Calls that leave the polynomials as they are.
use Rattle.std.proofs.Common.{◌≡◌, refl, ℕ, List, Option, Some, None}
use Rattle.proto_names.specs.declared.instance.Instance.{Instance}
use Rattle.party_roll.specs.declared.roll.Roll.{Ghosts}
use Rattle.session_rules.specs.declared.call.Call.TheVariants as call
use Rattle.session_rules.specs.declared.fixed.Fixed.{Fixed}
use Rattle.session_rules.specs.Deeds.{done, changed}
use Rattle.session_rules.specs.States.{State}
use Rattle.session_rules.specs.Steps.{judge, step, next_ready, take}
use Rattle.session_spec.specs.Settings.{Setting, rules}
use Rattle.session_spec.specs.Stores.{Store, Brought, nothing_brought, with_deed, with_turn, store_done}
use Rattle.session_core.specs.declared.session.Session.{Session}
use Rattle.session_core.specs.Calls.{known, state_of, store_of, made_store}
use Rattle.session_core.proofs.Brought.{take_by}

take_leaves : (w : Setting) (f : Fixed) (s : State) (who : ℕ) (b : Brought) (is : List Instance) (h : Store) → store_done w (take f s who).deed b is h ≡ h
unfolding take store_done with_deed with_turn
take_leaves w f s who b is h = at (next_ready f s)
  where
    at : (o : Option ℕ) → store_done w (take_by who o).deed b is h ≡ h
    at None = refl
    at (Some c) = refl

module _ {R : Type 0} {K : Ghosts R} where
  pub asking_leaves : (s : Session R K) (caller p : ℕ) → made_store s caller (call.Pending p) nothing_brought ≡ store_of s
  unfolding judge step done changed store_done with_deed
  asking_leaves s caller p = refl

  pub briefing_leaves : (s : Session R K) (caller id : ℕ) → made_store s caller (call.Brief id) nothing_brought ≡ store_of s
  unfolding judge step done changed store_done with_deed
  briefing_leaves s caller id = refl

  pub taking_leaves : (s : Session R K) (caller : ℕ) → made_store s caller call.Take nothing_brought ≡ store_of s
  unfolding judge step
  taking_leaves s caller = take_leaves (known s).setting (rules (known s).setting) (state_of s) caller nothing_brought _ (store_of s)
