-- The output of a job in hand may be brought, and where there is no memory for it the circuit is given back.
use Rattle.std.proofs.Common.{◌≡◌, ◌∙◌, sym, ap, ap₂, subst, refl, ℕ, inl, inr, List, [], ◌∷◌, ◌++◌, Some}
use Rattle.std.specs.Prelude.{Result, Ok, Err}
use Rattle.std.proofs.lemmas.List.{append-nil, append_assoc}
use Rattle.std.proofs.lemmas.List.Elements.{filter-append}
use Rattle.ring_spec.specs.Pairs.{Cipher, CipherFits}
use Rattle.param_set.specs.Numbers.{numbers_of}
use Rattle.param_set.specs.declared.params.Params.{Params}
use Rattle.cipher_spec.specs.Keys.{no_keys}
use Rattle.cipher_spec.specs.Ciphers.{output_cipher}
use Rattle.proto_names.specs.declared.instance.Instance.{Instance}
use Rattle.circuit_runner.specs.declared.job.Job.{Job}
use Rattle.session_rules.specs.declared.call.Call.TheVariants as call
use Rattle.session_rules.specs.declared.call.Entry.{Entry}
use Rattle.session_rules.specs.declared.reply.Reply.{Reply}
use Rattle.session_rules.specs.Tasks.{finishes, is_by, own, entry}
use Rattle.session_rules.specs.Courses.{BreaksOff}
use Rattle.session_rules.specs.States.{State}
use Rattle.session_rules.specs.Steps.{step}
use Rattle.session_rules.proofs.Runs.{next_state}
use Rattle.run_laws.proofs.Idle.{take_issues}
use Rattle.run_laws.proofs.Leaving.{breaks_first}
use Rattle.session_spec.specs.Outputs.{key_in, inputs_of}
use Rattle.session_state.specs.declared.handed.Taking.{Taking}
use Rattle.session_core.specs.declared.stop.Stop.{Stop}
use Rattle.session_core.specs.declared.stop.Stop.TheVariants.{NoMemory}
use Rattle.lane_workers.specs.Desks.{Fixture, View, IsSeen, AreOthers, Answered, Unanswered, Turned, nothing_handed, ShowsJob, IsJob, MayFinish, behind, known_of, rules_of, state_seen}
use Rattle.lane_workers.specs.Doing.{BrokeOff}
use Rattle.lane_workers.proofs.Doing.{own_one}
use Rattle.lane_workers.proofs.Bringing.{at_some, output_brought}

pub may_finish_job : (v : View) (j : Job) (ct : Cipher) (p : Params) → IsSeen v → p ≡ (known_of v).params → IsJob (known_of v) (state_seen v) j → ct ≡ output_cipher (numbers_of p) no_keys j.inputs j.circuit.value
    → CipherFits p.q p.n ct → MayFinish v j.number ct
may_finish_job v j ct p seen ring x made fits = record {
  fits = subst (λ (z : Params). CipherFits z.q z.n ct) ring fits;
  honest = λ told taken.
      output_brought (known_of v).setting (known_of v).seeds (state_seen v).instances j.number ct j.inputs j.circuit.value p (seen.numbers ∙ ap numbers_of (sym ring)) x.free (x.honest told) x.circuit made;
}

-- a job that is handed out is one in hand once it is taken, since taking it issues nothing
pub job_taken : (v u : View) (x : Taking) (j : Job) → u.fixed ≡ v.fixed → Answered v u call.Take x.reply ShowsJob x → x.job ≡ Some j → IsJob (known_of u) (state_seen u) j
job_taken v u x j same y is =
    let k = known_of v in
    let f = rules_of v in
    let es = v.seen ++ y.others in
    let here = at_some (IsJob k (behind k es)) x.job j is y.hands.job in
    let now : behind k u.seen ≡ (step f (behind k es) v.fixed.caller call.Take).1 = ap (behind k) y.seen ∙ next_state f es (entry v.fixed.caller call.Take x.reply) in
    let stays : (behind k u.seen).instances ≡ (behind k es).instances = ap (λ (z : State). z.instances) now ∙ take_issues f v.fixed.caller (behind k es) in
    let later : IsJob k (behind k u.seen) j = record {
      circuit = here.circuit;
      ready = here.ready;
      free = here.free;
      honest = λ told. here.honest told ∙ ap (λ (z : List Instance). inputs_of k.setting k.seeds (key_in k.setting k.seeds z) j.number) (sym stays);
    } in
    subst (λ (z : Fixture). IsJob z.known (behind z.known u.seen) j) (sym same) later

-- ---- where it isn't brought

-- nothing is called but what others call
pub record Waited (v u : View) : Type 0 where
  pub same : u.fixed ≡ v.fixed
  pub others : List Entry
  pub are : AreOthers v.fixed others
  pub seen : u.seen ≡ v.seen ++ others
  pub mine : u.mine ≡ v.mine

pub waited_none : (v : View) → Waited v v
waited_none v = record { same = refl; others = []; are = record { strange = refl; none = λ _. refl }; seen = sym (append-nil v.seen); mine = refl }

pub waited_by : (v u : View) (why : Stop) → u.fixed ≡ v.fixed → Unanswered v u why → Waited v u
waited_by v u why same x = record { same = same; others = x.others; are = x.are; seen = x.seen; mine = x.mine }

own_two : (who : ℕ) (a b more : List Entry) → own who a ≡ [] → own who b ≡ [] → own who (a ++ (b ++ more)) ≡ own who more
own_two who a b more x y =
    filter-append (is_by who) a (b ++ more) ∙ ap (λ (p : List Entry). p ++ own who (b ++ more)) x ∙ filter-append (is_by who) b more ∙ ap (λ (p : List Entry). p ++ own who more) y

-- with the entries of others behind others
two_waits : (a b c d e : List Entry) → b ≡ a ++ d → c ≡ b ++ e → c ≡ a ++ (d ++ e)
two_waits a b c d e x y = y ∙ ap (λ (z : List Entry). z ++ e) x ∙ append_assoc a d e

-- no call was made of a circuit that is to be finished
next_finish : (l c : ℕ) → BreaksOff l (finishes c ∷ []) [] (call.Finish c)
next_finish l c = breaks_first l (finishes c ∷ []) [] (finishes c) (call.Finish c) [] (record { leaves = refl }) refl

gave_by : (c : ℕ) (v u w : View) (r : Reply) → Waited v u → w.fixed ≡ u.fixed → Answered u w (call.GiveBack c) r nothing_handed r → BrokeOff (finishes c ∷ []) v w NoMemory
gave_by c v u w r a same y =
    let who = v.fixed.caller in
    let back = entry who (call.GiveBack c) r ∷ [] in
    let theirs = subst (λ (z : Fixture). AreOthers z y.others) a.same y.are in
    let caller : entry u.fixed.caller (call.GiveBack c) r ∷ [] ≡ back = ap (λ (z : Fixture). entry z.caller (call.GiveBack c) r ∷ []) a.same in
    let seen : w.seen ≡ (u.seen ++ y.others) ++ back = y.seen ∙ ap (λ (z : List Entry). (u.seen ++ y.others) ++ z) caller in
    record {
      more = a.others ++ (y.others ++ back);
      made = [];
      back = back;
      seen = two_waits v.seen u.seen w.seen a.others (y.others ++ back) a.seen (seen ∙ append_assoc u.seen y.others back);
      mine = y.mine ∙ ap₂ (λ (p q : List Entry). p ++ q) (a.mine ∙ sym (append-nil v.mine)) caller;
      its = own_two who a.others y.others back a.are.strange theirs.strange ∙ own_one who (call.GiveBack c) r;
      alone = λ is. ap₂ (λ (p q : List Entry). p ++ (q ++ back)) (a.are.none is) (theirs.none is);
      next = call.Finish c;
      are = next_finish (rules_of v).rows c;
      gives_back = inr (record { circuit = c; reply = r; short = refl; unfinished = refl; entry = refl });
      reason = λ other. cc;
    }

kept_by : (c : ℕ) (v u w : View) (why : Stop) → Waited v u → w.fixed ≡ u.fixed → Unanswered u w why → BrokeOff (finishes c ∷ []) v w NoMemory
kept_by c v u w why a same y =
    let theirs = subst (λ (z : Fixture). AreOthers z y.others) a.same y.are in
    record {
      more = a.others ++ y.others;
      made = [];
      back = [];
      seen = two_waits v.seen u.seen w.seen a.others y.others a.seen y.seen;
      mine = y.mine ∙ a.mine ∙ sym (append-nil v.mine) ∙ sym (append-nil (v.mine ++ []));
      its = filter-append (is_by v.fixed.caller) a.others y.others ∙ ap₂ (λ (p q : List Entry). p ++ q) a.are.strange theirs.strange;
      alone = λ is. ap₂ (λ (p q : List Entry). p ++ q) (a.are.none is) (theirs.none is);
      next = call.Finish c;
      are = next_finish (rules_of v).rows c;
      gives_back = inl refl;
      reason = λ other. cc;
    }

-- it is given back where there was no memory, or that isn't answered either
pub gives_back : (c : ℕ) (v u w : View) (result : Result Reply Stop) → Waited v u → Turned u w result (λ r. r) (call.GiveBack c) nothing_handed → BrokeOff (finishes c ∷ []) v w NoMemory
gives_back c v u w (Ok r) a t = gave_by c v u w r a t.same t.answered
gives_back c v u w (Err why) a t = kept_by c v u w why a t.same t.unanswered
