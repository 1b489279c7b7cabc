-- A session is a desk: its calls come out so, and what a desk may bring may be brought to it.
use Rattle.std.proofs.Common.{◌≡◌, ◌∙◌, sym, ap, subst, refl, ℕ, Bool, true, false, not, List, [], ◌∷◌, ◌++◌, length, Option, Some, None}
use Rattle.std.specs.Prelude.{◌↔◌, Result, Ok, Err, IfOk, IfSome, if◌then◌else◌, ◌&&◌, ⊤}
use Rattle.std.proofs.lemmas.List.{append-nil}
use Rattle.std.proofs.lemmas.List.Elements.{filter-append}
use Rattle.std.specs.declared.alloc.Global.{Global}
use Rattle.std.specs.declared.sync.Arc.{Arc}
use Rattle.ring_spec.specs.Pairs.{Key, Cipher}
use Rattle.share_spec.specs.Sets.{has}
use Rattle.proto_names.specs.Names.{rows_of}
use Rattle.proto_names.specs.Instances.{instance, lacks}
use Rattle.proto_names.specs.declared.signature.Signature.TheVariants.{Pk}
use Rattle.proto_names.specs.declared.instance.Instance.{Instance}
use Rattle.instance_table.specs.declared.share.Share.{Share}
use Rattle.party_roll.specs.declared.roll.Roll.{Ghosts}
use Rattle.session_rules.specs.declared.call.Call.{Call}
use Rattle.session_rules.specs.declared.call.Entry.{Entry}
use Rattle.session_rules.specs.declared.reply.Reply.{Reply}
use Rattle.session_rules.specs.declared.reply.Reply.TheVariants as reply
use Rattle.session_rules.specs.declared.fixed.Fixed.{Fixed}
use Rattle.session_rules.specs.declared.deed.Verdict.{Verdict}
use Rattle.session_rules.specs.States.{State, circuit, has_done, is_taken_by}
use Rattle.session_rules.specs.declared.deed.Deed.TheVariants.{Turns}
use Rattle.session_rules.specs.declared.state.CircuitState.TheVariants.{Evaluated}
use Rattle.session_rules.specs.Steps.{says, does, is_input, input, finish}
use Rattle.session_rules.specs.Tasks.{own, entry, is_by}
use Rattle.session_spec.specs.Settings.{Setting, rules, gadget_rows}
use Rattle.session_spec.specs.Outputs.{key_instance, key_in, keys_in, share_of, inputs_of, output_of}
use Rattle.session_spec.specs.Stores.{Store, Brought, held_key}
use Rattle.session_state.specs.Shared.{shared_if}
use Rattle.session_state.specs.declared.handed.Briefing.{Briefing}
use Rattle.session_state.specs.declared.handed.Listing.{Listing}
use Rattle.session_state.specs.declared.handed.Taking.{Taking}
use Rattle.cipher_spec.specs.Ciphers.{is_switch_free}
use Rattle.session_state.specs.Handed.{IsBriefOf, IsJobFor, CanEvaluate}
use Rattle.circuit_runner.specs.declared.job.Job.{Job}
use Rattle.session_core.specs.Sessions.{Known, said, BringsShareTo, BringsInputTo, BringsOutputTo}
use Rattle.session_core.specs.Handing.{HandsKey, HandsBrief, HandsJob}
use Rattle.session_core.specs.Calls.{About, known, about, state_of, Called, Made, Stopped}
use Rattle.session_core.specs.declared.session.Session.{Session}
use Rattle.session_core.specs.declared.stop.Stop.{Stop}
use Rattle.session_core.specs.declared.stop.Stop.TheVariants.{Spent}
use Rattle.lane_workers.specs.Desks.{Fixture, Hands, Answered, Unanswered, Turned, ShowsKey, TellsOf, ShowsBrief, IsJob, ShowsJob, IsShareThere, IsInputThere, MayDeliver, MayGive, MayFinish, behind, session_fixture, session_view}
use Rattle.lane_workers.proofs.Going.{err_spent}
use Rattle.lane_workers.proofs.Owing.{key_done, held_done}

-- ---- what is handed out

if_some_weaker : {X : Type 0} (o : Option X) (P Q : X → Type 0) → ((x : X) → P x → Q x) → IfSome o P → IfSome o Q
if_some_weaker None P Q f h = h
if_some_weaker (Some x) P Q f h = f x h

none_done : (w : Setting) (h : Store) (is : List Instance) → held_key w h is ≡ None → has_done Pk is ≡ false
unfolding held_key
none_done w h is e = key_done is w h (key_instance is) refl e

key_complete : (w : Setting) (h : Store) (is : List Instance) (o : Option (Arc Key Global)) → shared_if o ≡ held_key w h is → IfSome o (λ a. has_done Pk is ≡ true)
key_complete w h is None e = tt
key_complete w h is (Some a) e = held_done w h is a.value (sym e)

pub shows_key : (k : Known) (s : State) (h : Store) (x : Listing) → HandsKey k s h x → ShowsKey k s x
shows_key k s h x y = record {
  fits = y.fits;
  complete = key_complete k.setting h s.instances x.key y.held;
  none = λ e. none_done k.setting h s.instances (sym y.held ∙ ap shared_if e);
  honest = y.honest;
}

pub shows_brief : (id : ℕ) (k : Known) (s : State) (h : Store) (x : Briefing) → HandsBrief id k s h x → ShowsBrief id k s x
shows_brief id k s h x y = record {
  told = if_some_weaker x.brief (λ a. (i : Instance) → instance s.instances id ≡ Some i → IsBriefOf k.params h i a.value) (λ a. (i : Instance) → instance s.instances id ≡ Some i → TellsOf i a.value)
      (λ a f i e. let z = f i e in record { id = z.id; signature = z.signature; set = z.set; round1 = z.round1; group = z.group }) y.told;
  there = y.there;
  goes = y.goes;
  made = y.made;
  honest = y.honest;
}

job_shown : (k : Known) (s : State) (h : Store) (o : Option Job) → IfSome o (λ j. IsJobFor k.setting h j.number j) → IfSome o (λ j. CanEvaluate k.params j) → IfSome o (λ j. is_switch_free j.circuit.value ≡ true)
    → (k.tells ≡ true → IfSome o (λ j. j.inputs ≡ inputs_of k.setting k.seeds (key_in k.setting k.seeds s.instances) j.number)) → IfSome o (IsJob k s)
job_shown k s h None a b c d = tt
job_shown k s h (Some j) a b c d = record { circuit = a.circuit; ready = b; free = c; honest = d }

pub shows_job : (k : Known) (s : State) (h : Store) (x : Taking) → HandsJob k s h x → ShowsJob k s x
shows_job k s h x y = record { named = y.job; none = y.none; job = job_shown k s h x.job y.circuit y.ready y.free y.honest }

pub if_ok_weaker : {X : Type 0} (r : Result X Stop) (P Q : X → Type 0) → ((x : X) → P x → Q x) → IfOk r P → IfOk r Q
if_ok_weaker (Ok x) P Q f h = f x h
if_ok_weaker (Err e) P Q f h = h

pub nothing : {X : Type 0} (r : Result X Stop) → IfOk r (λ x. ⊤)
nothing (Ok x) = tt
nothing (Err e) = tt

-- ---- what may be brought

middle : (a b c : Bool) → (a && b && c) ≡ true → b ≡ true
middle true true c e = refl
middle true false c e = cc
middle false true c e = refl
middle false false c e = cc

has_it : (p : ℕ) (i : Instance) → lacks p i ≡ true → has i.set.bits p ≡ true
unfolding lacks
has_it p i e = middle _ (has i.set.bits p) (not (has i.sent.bits p)) e

given_by : (b : Bool) (v : Verdict) → (if not b then says reply.NoInput else v).reply ≡ reply.Given → b ≡ true
given_by true v e = refl
given_by false v e = cc

given_there : (f : Fixed) (s : State) (c k : ℕ) → (input f s c k).reply ≡ reply.Given → is_input f c k ≡ true
unfolding input
given_there f s c k e = given_by (is_input f c k) _ e

finished_by : (b : Bool) (c : ℕ) → (if b then does reply.Finished (Turns c Evaluated) else says reply.NotTaken).reply ≡ reply.Finished → b ≡ true
finished_by true c e = refl
finished_by false c e = cc

finished_there : (s : State) (who c : ℕ) → (finish s who c).reply ≡ reply.Finished → is_taken_by who (circuit s.circuits c) ≡ true
unfolding finish
finished_there s who c e = finished_by (is_taken_by who (circuit s.circuits c)) c e

is_share_at : (w : Setting) (seeds : List (List ℕ)) (s : State) (share : Share) (i : Instance) → IsShareThere w seeds s share → instance s.instances share.id ≡ Some i → has i.set.bits share.party ≡ true
    → length share.rows ≡ rows_of i.signature (gadget_rows w) → share.rows ≡ share_of w seeds (keys_in w seeds s.instances) i share.party
is_share_at w seeds s share i x found =
    let a = x.issued in
    let same : x.item ≡ i = cc in
    subst (λ (z : Instance). has z.set.bits share.party ≡ true → length share.rows ≡ rows_of z.signature (gadget_rows w) → share.rows ≡ share_of w seeds (keys_in w seeds s.instances) z share.party) same x.honest

abbrev fixture_by : Known → Fixture
fixture_by k = record { known = k; caller = 0; alone = true; lent = []; lock = None; earlier = [] }

module _ {R : Type 0} {K : Ghosts R} where
  seen_is : (s : Session R K) → behind (known s) s.log.items ≡ state_of s
  seen_is s = sym s.state_is

  pub may_deliver : (s : Session R K) (share : Share) → MayDeliver (session_view s) share → BringsShareTo (known s) (state_of s) share
  may_deliver s share m = record {
    fits = m.fits;
    few = m.few;
    honest = λ t i found lacking long.
        is_share_at (known s).setting (known s).seeds (state_of s) share i (subst (λ (z : State). IsShareThere (known s).setting (known s).seeds z share) (seen_is s) (m.honest t)) found
        (has_it share.party i lacking) long;
  }

  pub may_give : (s : Session R K) (c k : ℕ) (ct : Cipher) → MayGive (session_view s) c k ct → BringsInputTo (known s) (state_of s) c k ct
  may_give s c k ct m = record {
    fits = m.fits;
    honest = λ t given.
        let x : IsInputThere (known s).setting (known s).seeds (state_of s) c k ct =
        subst (λ (z : State). IsInputThere (known s).setting (known s).seeds z c k ct) (seen_is s) (m.honest t (given_there (rules (known s).setting) (state_of s) c k given)) in
        x.honest;
  }

  pub may_finish : (s : Session R K) (c : ℕ) (ct : Cipher) → MayFinish (session_view s) c ct → BringsOutputTo (known s) (state_of s) 0 c ct
  may_finish s c ct m = record {
    fits = m.fits;
    honest = λ t finished.
        subst (λ (z : State). is_taken_by 0 (circuit z.circuits c) ≡ true → ct ≡ output_of (known s).setting (known s).seeds (keys_in (known s).setting (known s).seeds z.instances c) c)
        (seen_is s) (m.honest t) (finished_there (state_of s) 0 c finished);
  }

  -- ---- how a call comes out

  same_fixture : (old new : Session R K) → about new ≡ about old → session_fixture new ≡ session_fixture old
  same_fixture old new e = ap (λ (z : About R). fixture_by z.known) e

  answered : {X : Type 0} (old new : Session R K) (c : Call) (r : Reply) (H : Hands X) (x : X) → Made old new 0 c r → H (known old) (state_of old) x → Answered (session_view old) (session_view new) c r H x
  answered old new c r H x made hands =
      let same = sym (append-nil old.log.items) in
      record {
        others = [];
        are = record { strange = refl; none = λ _. refl };
        seen = made.log ∙ ap (λ (z : List Entry). z ++ entry 0 c r ∷ []) same;
        mine = ap (own 0) made.log ∙ filter-append (is_by 0) old.log.items (entry 0 c r ∷ []);
        reply = made.reply ∙ ap (λ (z : List Entry). (said (known old) z 0 c).0) same;
        hands = subst (λ (z : State). H (known old) z x) (old.state_is ∙ ap (behind (known old)) same) hands;
      }

  unanswered : (old new : Session R K) (why : Stop) → Stopped old new → ((why ≡ Spent) ↔ (length old.log.items ≡ (known old).most)) → Unanswered (session_view old) (session_view new) why
  unanswered old new why stopped spent = record {
    others = [];
    are = record { strange = refl; none = λ _. refl };
    seen = stopped.log ∙ sym (append-nil old.log.items);
    mine = ap (own 0) stopped.log;
    spent = subst (λ (es : List Entry). (why ≡ Spent) ↔ (length es ≡ (known old).most)) (sym stopped.log) spent;
  }

  pub turned : {X : Type 0} (old new : Session R K) (result : Result X Stop) (said_in : X → Reply) (c : Call) (b : Brought) (H : Hands X) → Called old new result said_in 0 c b
      → IfOk result (H (known old) (state_of old)) → Turned (session_view old) (session_view new) result said_in c H
  turned old new (Ok x) said_in c b H called hands = record {
    same = same_fixture old new called.about;
    answered = answered old new c (said_in x) H x called.made hands;
    unanswered = tt;
  }
  turned old new (Err why) said_in c b H called hands = record {
    same = same_fixture old new called.about;
    answered = tt;
    unanswered = unanswered old new why called.stopped (err_spent why (length old.log.items ≡ (known old).most) called.spent);
  }
