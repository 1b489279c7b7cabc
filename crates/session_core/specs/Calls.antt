-- What the calls of a session come to.
use Rattle.std.specs.Prelude.{◌≡◌, ℕ, ◌+◌, ◌*◌, ◌≤◌, List, [], ◌∷◌, ◌++◌, length, vec_capacity, Result, Err, ◌↔◌, IfOk, OnOk, OnErr}
use Rattle.param_set.specs.declared.params.Params.{Params}
use Rattle.instance_table.specs.declared.share.Share.{Share}
use Rattle.party_roll.specs.declared.roll.Roll.{Ghosts}
use Rattle.session_rules.specs.declared.call.Call.{Call}
use Rattle.session_rules.specs.declared.call.Call.TheVariants as call
use Rattle.session_rules.specs.declared.reply.Reply.{Reply}
use Rattle.session_rules.specs.States.{State}
use Rattle.session_rules.specs.Steps.{judge, step}
use Rattle.session_rules.specs.Tasks.{entry}
use Rattle.session_spec.specs.Settings.{Offer, rules}
use Rattle.session_spec.specs.Stores.{Store, Brought, empty, store_done}
use Rattle.session_state.specs.Standings.{state, store, IsUnchanged}
use Rattle.session_state.specs.Parts.{setting_by}
use Rattle.session_core.specs.Sessions.{Known, known_by, said, spare}
use Rattle.session_core.specs.declared.session.Session.{Session}
use Rattle.session_core.specs.declared.stop.Stop.{Stop}
use Rattle.session_core.specs.declared.stop.Stop.TheVariants.{Spent, NoMemory}

-- what never changes of a session: its roll, and what is known of it
pub record About (R : Type 0) : Type 0 where
  pub roll : R
  pub known : Known

-- the call that brings a share
abbrev pub brings : Share → Call
brings share = call.Deliver share.id share.party (length share.rows)

module _ {R : Type 0} {K : Ghosts R} where
  abbrev pub known : Session R K → Known
  known s = known_by (K.tells s.roll) (K.seed s.roll) s.max_calls s.standing

  abbrev pub about : Session R K → About R
  about s = record { roll = s.roll; known = known s }

  -- its state, and its polynomials
  abbrev pub state_of : Session R K → State
  state_of s = state s.standing

  abbrev pub store_of : Session R K → Store
  store_of s = store s.standing

  -- and its polynomials once what the rules say to a call is done, with what the call brings
  abbrev pub made_store : Session R K → ℕ → Call → Brought → Store
  made_store s caller c b =
      store_done (known s).setting (judge (rules (known s).setting) (state_of s) caller c).deed b
      (step (rules (known s).setting) (state_of s) caller c).1.instances (store_of s)

  -- of what is known, the state and the polynomials as they stand
  abbrev pub At : {X : Type 0} → (Known → State → Store → X → Type 0) → Session R K → X → Type 0
  At P s x = P (known s) (state_of s) (store_of s) x

  -- all calls are made
  abbrev pub IsSpent : Session R K → Type 0
  IsSpent s = length s.log.items ≡ s.max_calls

  -- there is room for an entry
  abbrev pub HasSpare : Session R K → Type 0
  HasSpare s = 1 ≤ spare s.log

  -- what the rules reply to a call
  abbrev pub reply_to : Session R K → ℕ → Call → Reply
  reply_to s caller c = (said (known s) s.log.items caller c).0

  -- where there is room for its entry, a call meets no memory only in place of such a reply, or of this one
  abbrev pub OnlyWhere : {X : Type 0} → (Reply → Type 0) → Session R K → Result X Stop → ℕ → Call → Type 0
  OnlyWhere P s result caller c = HasSpare s → result ≡ Err NoMemory → P (reply_to s caller c)

  abbrev pub OnlyFor : {X : Type 0} → Reply → Session R K → Result X Stop → ℕ → Call → Type 0
  OnlyFor r s result caller c = OnlyWhere (λ x. x ≡ r) s result caller c

  -- room for entries is made by doubling at most
  abbrev pub Doubles : Session R K → Session R K → Type 0
  Doubles old new = vec_capacity new.log ≤ 2 * vec_capacity old.log + 1

  -- at first no call was made, and no polynomial is there; and no room is taken for entries
  pub record IsOpened (p : Params) (public : List ℕ) (offers : List Offer) (s : Session R K) : Type 0 where
    pub setting : (known s).setting ≡ setting_by p public offers
    pub store : store_of s ≡ empty (setting_by p public offers)
    pub log : s.log.items ≡ []
    pub room : vec_capacity s.log ≡ 0

  -- nothing has changed but the room for entries, which isn't less
  pub record Waits (old new : Session R K) : Type 0 where
    pub roll : new.roll ≡ old.roll
    pub most : new.max_calls ≡ old.max_calls
    pub standing : new.standing ≡ old.standing
    pub log : new.log.items ≡ old.log.items
    pub room : spare old.log ≤ spare new.log

  -- a call was answered: the reply and the state are those of the rules, its entry stands behind the log, and
  -- took at most the room of one
  pub record Made (old new : Session R K) (caller : ℕ) (c : Call) (r : Reply) : Type 0 where
    pub reply : r ≡ (said (known old) old.log.items caller c).0
    pub state : state_of new ≡ (said (known old) old.log.items caller c).1
    pub log : new.log.items ≡ old.log.items ++ entry caller c r ∷ []
    pub room : spare old.log ≤ spare new.log + 1
    pub doubles : Doubles old new

  -- a call wasn't answered: nothing has changed, and there is as much room as before, or more
  pub record Stopped (old new : Session R K) : Type 0 where
    pub unchanged : IsUnchanged old.standing new.standing
    pub log : new.log.items ≡ old.log.items
    pub room : spare old.log ≤ spare new.log
    pub doubles : Doubles old new

  -- how a call comes out, whatever it brings and hands back: what the session is about stays as it was; with a reply
  -- the session has gone on as the rules say, and its polynomials are those that are then made; without one nothing
  -- has changed; and Spent comes exactly where all calls are made
  pub record Called {X : Type 0} (old new : Session R K) (result : Result X Stop) (said_in : X → Reply) (caller : ℕ) (c : Call) (b : Brought) : Type 0 where
    pub about : about new ≡ about old
    pub made : IfOk result (λ x. Made old new caller c (said_in x))
    pub store : OnOk result (store_of new ≡ made_store old caller c b)
    pub stopped : OnErr result (Stopped old new)
    pub spent : (result ≡ Err Spent) ↔ IsSpent old
