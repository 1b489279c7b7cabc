-- What a session is after a call, and what its call made.
use Rattle.std.proofs.Common.{◌≡◌, ◌∙◌, sym, ap, ap₂, subst, ℕ, ◌+◌, ◌<◌, Bool, true, List, [], ◌∷◌, ◌++◌, length, arith}
use Rattle.std.specs.Prelude.{Ok, vec_len, vec_capacity}
use Rattle.std.proofs.lemmas.List.{length-append}
use Rattle.param_set.specs.declared.params.Params.{Params}
use Rattle.party_roll.specs.declared.roll.Roll.{Ghosts}
use Rattle.party_roll.specs.Seeds.{seeds_told}
use Rattle.session_rules.specs.declared.call.Call.{Call}
use Rattle.session_rules.specs.declared.call.Entry.{Entry}
use Rattle.session_rules.specs.declared.fixed.Fixed.{Fixed}
use Rattle.session_rules.specs.declared.reply.Reply.{Reply}
use Rattle.session_rules.specs.States.{State}
use Rattle.session_rules.specs.Steps.{judge, step}
use Rattle.session_rules.specs.Tasks.{entry}
use Rattle.session_rules.specs.Histories.{IsLegal, state_after}
use Rattle.session_spec.specs.Settings.{Setting}
use Rattle.session_spec.specs.Stores.{Store, Brought, store_done}
use Rattle.session_spec.specs.Honesty.{IsHonest, Brings}
use Rattle.session_laws.specs.Laws.{Stands}
use Rattle.session_laws.proofs.Calls.{calls_keep_honest}
use Rattle.circuit_laws.proofs.Outputs.{outputs_carry}
use Rattle.answer_laws.proofs.Answers.{answers_are_plain}
use Rattle.session_state.specs.declared.standing.Standing.{Standing}
use Rattle.session_state.specs.Standings.{setting, rules_of, state, store}
use Rattle.session_core.specs.declared.session.Session.{Session}
use Rattle.session_core.specs.Sessions.{Known, known_by, said, IsSound, IsSoundBy}
use Rattle.session_core.specs.Calls.{About, about, known, reply_to, made_store, HasSpare, Doubles, Waits, Made, Called}
use Rattle.session_core.proofs.Grown.{after_call, stands}
use Rattle.session_core.proofs.Members.{JoinsOf, still_present}

abbrev known_from : Bool → (ℕ → List ℕ) → ℕ → Setting → Params → Known
known_from tells seed most w p = record { params = p; setting = w; tells = tells; seeds = seeds_told seed p.parties; most = most }

known_is : (tells : Bool) (seed : ℕ → List ℕ) (most : ℕ) (st now : Standing) → setting now ≡ setting st → now.params ≡ st.params → known_by tells seed most now ≡ known_by tells seed most st
known_is tells seed most st now same params = ap₂ (known_from tells seed most) same params

abbrev about_from : {R : Type 0} → R → Known → About R
about_from r k = record { roll = r; known = k }

module _ {R : Type 0} {K : Ghosts R} where
  pub stands_in : (s : Session R K) → K.tells s.roll ≡ true → Stands s.standing.params (known s).setting (known s).seeds (state s.standing) (store s.standing)
  stands_in s t = stands (K.tells s.roll) (K.seed s.roll) s.max_calls s.standing s.log.items s.state_is s.sound t

  -- what the call of its standing came to, with what it brought
  pub record Moved (s : Session R K) (now : Standing) (caller : ℕ) (c : Call) (r : Reply) (b : Brought) : Type 0 where
    pub setting : setting now ≡ setting s.standing
    pub params : now.params ≡ s.standing.params
    pub reply : r ≡ (step (rules_of s.standing) (state s.standing) caller c).0
    pub state : state now ≡ (step (rules_of s.standing) (state s.standing) caller c).1
    pub store : store now ≡ made_store s caller c b

  pub record GoesOn (s : Session R K) (now : Standing) (items : List Entry) : Type 0 where
    pub public_is : now.public ≡ K.public s.roll
    pub legal : IsLegal (rules_of now) items
    pub state_is : state now ≡ state_after (rules_of now) items
    pub sound : IsSoundBy (K.tells s.roll) (K.seed s.roll) s.max_calls now items

  -- the polynomials then, where what is brought is honest
  honest_then : (s : Session R K) (caller : ℕ) (c : Call) (b : Brought) → K.tells s.roll ≡ true → Brings (known s).setting (known s).seeds (state s.standing) (judge (rules_of s.standing) (state s.standing) caller c).deed b
      → IsHonest (known s).setting (known s).seeds (step (rules_of s.standing) (state s.standing) caller c).1 (made_store s caller c b)
  honest_then s caller c b t brings =
      calls_keep_honest (answers_are_plain outputs_carry) s.standing.params (known s).setting (known s).seeds (state s.standing) (store s.standing) caller c b (stands_in s t) brings

  pub goes_on : (old s : Session R K) (now : Standing) (items : List Entry) (caller : ℕ) (c : Call) (r copy : Reply) (b : Brought) → copy ≡ r
      → Waits old s → length old.log.items < old.max_calls → JoinsOf s.standing.params.parties c → Moved s now caller c r b
      → (K.tells s.roll ≡ true → Brings (known s).setting (known s).seeds (state s.standing) (judge (rules_of s.standing) (state s.standing) caller c).deed b)
      → items ≡ s.log.items ++ entry caller c copy ∷ [] → GoesOn s now items
  goes_on old s now items caller c r copy b same w begun joins moved brings logged =
      let st = s.standing in
      let f : Fixed = rules_of st in
      let more : length s.log.items < s.max_calls = rw (w.log, w.most) begun in
      let leads = after_call st now s.log.items items caller c copy (record { legal = s.legal; state_is = s.state_is }) moved.setting (same ∙ moved.reply) moved.state logged in
      let sound : IsSound (known s) now items = record {
        some = s.sound.some;
        most = s.sound.most;
        few = rw logged (omega (arith, length-append s.log.items (entry caller c copy ∷ [])));
        modest = s.sound.modest;
        free = s.sound.free;
        parties = still_present st.params.parties f (state st) (state now) caller c joins s.sound.parties moved.state;
        values = s.sound.values;
        honest = λ t. subst (λ (z : State). IsHonest (known s).setting (known s).seeds z (store now)) (sym moved.state)
            (subst (λ (z : Store). IsHonest (known s).setting (known s).seeds (step f (state st) caller c).1 z) (sym moved.store) (honest_then s caller c b t (brings t)));
      } in
      record {
        public_is = ap (λ (w : Setting). w.public) moved.setting ∙ s.public_is;
        legal = leads.legal;
        state_is = leads.state_is;
        sound = subst (λ (k : Known). IsSound k now items) (sym (known_is (K.tells s.roll) (K.seed s.roll) s.max_calls st now moved.setting moved.params)) sound;
      }

  -- ---- what a call made

  said_is : (old s : Session R K) (caller : ℕ) (c : Call) → Waits old s → step (rules_of s.standing) (state s.standing) caller c ≡ said (known old) old.log.items caller c
  said_is old s caller c w =
      ap (λ (z : State). step (rules_of s.standing) z caller c) s.state_is
      ∙ ap₂ (λ (st : Standing) (es : List Entry). step (rules_of st) (state_after (rules_of st) es) caller c) w.standing w.log

  pub reply_is : (old s : Session R K) (caller : ℕ) (c : Call) → Waits old s → reply_to old caller c ≡ (step (rules_of s.standing) (state s.standing) caller c).0
  reply_is old s caller c w = ap (λ (x : Reply × State). x.0) (sym (said_is old s caller c w))

  -- what the polynomials are then
  store_made : (old s : Session R K) (caller : ℕ) (c : Call) (b : Brought) (h : Store) → Waits old s → h ≡ made_store s caller c b → h ≡ made_store old caller c b
  store_made old s caller c b h w e =
      e ∙ ap (λ (st : Standing). store_done (setting st) (judge (rules_of st) (state st) caller c).deed b (step (rules_of st) (state st) caller c).1.instances (store st)) w.standing

  about_is : (old s new : Session R K) → Waits old s → new.roll ≡ s.roll → new.max_calls ≡ s.max_calls → setting new.standing ≡ setting s.standing → new.standing.params ≡ s.standing.params
      → about new ≡ about old
  about_is old s new w roll most same params =
      let tells = K.tells old.roll in
      let seed = K.seed old.roll in
      let there : known new ≡ known old =
      ap (λ (r : R). known_by (K.tells r) (K.seed r) new.max_calls new.standing) (roll ∙ w.roll)
      ∙ ap (λ (n : ℕ). known_by tells seed n new.standing) (most ∙ w.most)
      ∙ known_is tells seed old.max_calls s.standing new.standing same params
      ∙ ap (λ (st : Standing). known_by tells seed old.max_calls st) w.standing in
      ap₂ about_from (roll ∙ w.roll) there

  -- a call for which there is room, and the entry that it leaves
  pub record Begins (old s : Session R K) : Type 0 where
    pub waits : Waits old s
    pub doubles : Doubles old s
    pub room : HasSpare s
    pub more : length old.log.items < old.max_calls

  pub record Logs (s new : Session R K) (caller : ℕ) (c : Call) (r : Reply) : Type 0 where
    pub roll : new.roll ≡ s.roll
    pub most : new.max_calls ≡ s.max_calls
    pub items : new.log.items ≡ s.log.items ++ entry caller c r ∷ []
    pub len : vec_len new.log ≡ vec_len s.log + 1
    pub capacity : vec_capacity new.log ≡ vec_capacity s.log

  made : (old s new : Session R K) (caller : ℕ) (c : Call) (r copy : Reply) (b : Brought) → copy ≡ r → Begins old s → Moved s new.standing caller c r b → Logs s new caller c copy → Made old new caller c r
  made old s new caller c r copy b same begun moved logged =
      let w = begun.waits in
      record {
        reply = moved.reply ∙ ap (λ (x : Reply × State). x.0) (said_is old s caller c w);
        state = moved.state ∙ ap (λ (x : Reply × State). x.1) (said_is old s caller c w);
        log = logged.items ∙ ap₂ (λ (es : List Entry) (x : Reply). es ++ entry caller c x ∷ []) w.log same;
        room = omega (arith, w.room, begun.room, logged.len, logged.capacity);
        doubles = omega (arith, begun.doubles, logged.capacity);
      }

  pub called : {X : Type 0} (said_in : X → Reply) (old s new : Session R K) (x : X) (caller : ℕ) (c : Call) (copy : Reply) (b : Brought) → copy ≡ said_in x → Begins old s
      → Moved s new.standing caller c (said_in x) b → Logs s new caller c copy → Called old new (Ok x) said_in caller c b
  called said_in old s new x caller c copy b same begun moved logged = record {
    about = about_is old s new begun.waits logged.roll logged.most moved.setting moved.params;
    made = made old s new caller c (said_in x) copy b same begun moved logged;
    store = store_made old s caller c b (store new.standing) begun.waits moved.store;
    stopped = tt;
    spent = (λ e. cc, λ full. absurd (let more = begun.more in omega (arith, full, more)));
  }
