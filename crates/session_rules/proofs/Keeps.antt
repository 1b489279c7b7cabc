-- Each deed and each move keeps what holds, and changes nothing that never changes.
use Rattle.std.proofs.Common.{◌≡◌, ◌∙◌, sym, subst, refl, ℕ, true, false, inl, inr, List, [], ◌∷◌, set, Some, Contains, arith, length-set}
use Rattle.std.proofs.lemmas.Bool.{both_ways, cases_eq}
use Rattle.std.proofs.lemmas.List.{get_or-set_other, length-map}
use Rattle.share_spec.specs.Sets.{has}
use Rattle.proto_names.specs.Groups.{with_party}
use Rattle.proto_names.specs.Instances.{after_share, after_void, fresh}
use Rattle.proto_names.specs.declared.signature.Signature.TheVariants.{Rlk2}
use Rattle.proto_names.specs.declared.instance.Instance.{Instance}
use Rattle.proto_names.specs.declared.instance.Stage.TheVariants.{Opened}
use Rattle.participants.specs.Loads.{loads_of}
use Rattle.participants.proofs.Choosing.{chosen_are_members, chosen_are_many, chosen_are_parties}
use Rattle.session_rules.specs.declared.call.Call.{Call}
use Rattle.session_rules.specs.declared.call.Entry.{Entry}
use Rattle.session_rules.specs.declared.reply.Reply.{Reply}
use Rattle.session_rules.specs.declared.deed.Deed.{Deed}
use Rattle.session_rules.specs.declared.deed.Deed.TheVariants.{Nothing, Joins, Loses, Counts, Gives, Turns}
use Rattle.session_rules.specs.declared.state.CircuitState.{CircuitState}
use Rattle.session_rules.specs.declared.state.CircuitState.TheVariants.{Refused, Idle, Taken, Evaluated, Answered}
use Rattle.session_rules.specs.declared.moves.Move.{Move}
use Rattle.session_rules.specs.declared.fixed.Fixed.{Fixed}
use Rattle.session_rules.specs.States.{State, circuit, is_idle, is_refused, opening, none_given, opening_of}
use Rattle.session_rules.specs.Issues.{next_move, instances_after, moved, chosen_present, issue}
use Rattle.session_rules.specs.Deeds.{after_loss, changed, done}
use Rattle.session_rules.specs.Steps.{judge, step}
use Rattle.session_rules.specs.Histories.{after, state_after}
use Rattle.session_rules.specs.Facts.{is_settled, CallsKeep, HistoriesKeep, CallsLeave, HistoriesLeave, IsSound, Decrypts, Kept, IsLater}
use Rattle.session_rules.specs.Allowed.{IsCounted, MayTurn, Allows}
use Rattle.session_rules.proofs.Stepwise.{issue_keeps, done_keeps}
use Rattle.session_rules.proofs.Judged.{judged}
use Rattle.session_rules.proofs.Contained.{contains_nil}
use Rattle.session_rules.proofs.Marks.{instance_within}
use Rattle.session_rules.proofs.PartySets.{has_party, with_keeps, none_outside}
use Rattle.session_rules.proofs.MoveKinds.{MoveIs, gives_up, second, other, move_is}
use Rattle.session_rules.proofs.Needs.{needed_evaluated}
use Rattle.session_rules.proofs.Readiness.{found_ready, ready_idle}
use Rattle.session_rules.proofs.Later.{AreLater, all_reflexive, map_later, push_later, circuits_reflexive, set_admitted, given_stays, state_later, later_reflexive, later_transitive}
use Rattle.session_rules.proofs.Ordered.{issue_kept}
use Rattle.session_rules.proofs.Losses.{give_up_later, give_up_kept, loss_later, loss_kept}
use Rattle.session_rules.proofs.Shares.{lacking_opened, share_all_later, share_kept, share_admitted}

-- a state that keeps what holds, and in which nothing has changed that never does
abbrev pub Next : Fixed → State → State → Type 0
Next f s t = Kept f t × IsLater s t

-- ---- a party joins, or is lost

joined_sound : (f : Fixed) (present p : ℕ) (i : Instance) → IsSound f present i → IsSound f (with_party present p) i
joined_sound f present p i s = record {
  set = s.set;
  parties = s.parties;
  sent = s.sent;
  senders = s.senders;
  complete = s.complete;
  opened = s.opened;
  awaited = λ e q h n. with_keeps present p q (s.awaited e q h n);
}

join_next : (f : Fixed) (s : State) (p : ℕ) → Kept f s → Next f s (changed (Joins p) s)
unfolding changed
join_next f s p k = (
  record { circuits = k.circuits; given = k.given; numbered = k.numbered; one = k.one; sound = λ i m. joined_sound f s.present p i (k.sound i m); decrypts = k.decrypts; rounds = k.rounds },
  state_later s (changed (Joins p) s) (all_reflexive s.instances) (λ c k e. e) (circuits_reflexive s.circuits),
)

lose_next : (f : Fixed) (s : State) (p : ℕ) → has s.present p ≡ true → Kept f s → Next f s (changed (Loses p) s)
unfolding after_loss changed
lose_next f s p h k =
    let range = has_party s.present p h in (
      loss_kept f s k p range.0 range.1,
      state_later s (changed (Loses p) s) (map_later _ s.instances (loss_later f s k p)) (λ c k e. e) (circuits_reflexive s.circuits),
    )

-- ---- a share is counted

-- the instance for which it is counted
pub record Waits (s : State) (i : Instance) (p : ℕ) : Type 0 where
  pub within : Contains s.instances i
  pub opened : i.stage ≡ Opened
  pub member : has i.set.bits p ≡ true
  pub unsent : has i.sent.bits p ≡ false

pub waits : (f : Fixed) (s : State) (c : Call) (r : Reply) (i : Instance) (p : ℕ) → Kept f s → IsCounted f s c r i p → Waits s i p
waits f s c r i p k a =
    let m = instance_within s.instances a.id i a.part.issued in
    record { within = m; opened = lacking_opened f s.present i p (k.sound i m) a.part.lives a.part.member a.unsent; member = a.part.member; unsent = a.unsent }

pub count_next : (f : Fixed) (s : State) (i : Instance) (p : ℕ) → Waits s i p → Kept f s → Next f s (changed (Counts i p) s)
unfolding after_share changed
count_next f s i p w k = (
  share_kept f s k i p w.within w.opened w.member w.unsent,
  state_later s (changed (Counts i p) s) (map_later _ s.instances (share_all_later f s k i p w.within w.opened w.member w.unsent)) (λ c k e. e) (share_admitted f s k i p w.within w.opened w.member w.unsent),
)

-- ---- an input is given; a circuit is taken, evaluated, or given back

pub give_next : (f : Fixed) (s : State) (c k : ℕ) → Kept f s → Next f s (changed (Gives c k) s)
unfolding changed
give_next f s c j k = (
  record { circuits = k.circuits; given = length-set s.given c _ ∙ k.given; numbered = k.numbered; one = k.one; sound = k.sound; decrypts = k.decrypts; rounds = k.rounds },
  state_later s (changed (Gives c j) s) (all_reflexive s.instances) (λ d i e. given_stays s.given c j d i e) (circuits_reflexive s.circuits),
)

-- a circuit that is turned was idle or taken, and isn't refused then
pub record IsTurned (before now : CircuitState) : Type 0 where
  pub admitted : is_refused before ≡ false
  pub unsettled : is_settled before ≡ false
  pub still : is_refused now ≡ false

pub was_idle : (before now : CircuitState) → is_idle before ≡ true → is_refused now ≡ false → IsTurned before now
was_idle (Refused place bound limit) now h e = cc
was_idle Idle now h e = record { admitted = refl; unsettled = refl; still = e }
was_idle (Taken who) now h e = cc
was_idle Evaluated now h e = cc
was_idle Answered now h e = cc

pub was_taken : (caller : ℕ) (before now : CircuitState) → before ≡ Taken caller → is_refused now ≡ false → IsTurned before now
was_taken caller before now h e = subst (λ (z : CircuitState). IsTurned z now) (sym h) (record { admitted = refl; unsettled = refl; still = e })

pub turned : (f : Fixed) (s : State) (caller : ℕ) (c : Call) (r : Reply) (d : ℕ) (now : CircuitState) → MayTurn f s caller c r d now → IsTurned (circuit s.circuits d) now
turned f s caller c r d (Refused place bound limit) m = absurd m
turned f s caller c r d Idle m = was_taken caller (circuit s.circuits d) Idle m.taken refl
turned f s caller c r d (Taken who) m = was_idle (circuit s.circuits d) (Taken who) (ready_idle f s d (found_ready f s d m.next).0) refl
turned f s caller c r d Evaluated m = was_taken caller (circuit s.circuits d) Evaluated m.taken refl
turned f s caller c r d Answered m = absurd m

-- one that is open is neither evaluated nor answered
turn_other : (circuits : List CircuitState) (c d : ℕ) (now then_ : CircuitState) → is_settled (circuit circuits c) ≡ false → is_settled then_ ≡ true → circuit circuits d ≡ then_ → circuit (set circuits c now) d ≡ then_
turn_other circuits c d now then_ free closed e = elim (cases_eq d c) [
  | inl at ↦ absurd (both_ways (is_settled then_) (subst (λ (z : CircuitState). is_settled z ≡ false) e (subst (λ (z : ℕ). is_settled (circuit circuits z) ≡ false) (sym at) free)) closed)
  | inr off ↦ get_or-set_other circuits c d now Answered off ∙ e
]

turn_settled : (circuits : List CircuitState) (c d : ℕ) (now : CircuitState) → is_settled (circuit circuits c) ≡ false → is_settled (circuit circuits d) ≡ true → is_settled (circuit (set circuits c now) d) ≡ true
turn_settled circuits c d now free closed = rw (turn_other circuits c d now (circuit circuits d) free closed refl) closed

turn_decrypts : (circuits : List CircuitState) (c : ℕ) (now : CircuitState) (i : Instance) → is_settled (circuit circuits c) ≡ false → Decrypts circuits i → Decrypts (set circuits c now) i
turn_decrypts circuits c now i free d = record {
  opened = λ e its waits. turn_other circuits c e now Evaluated free refl (d.opened e its waits);
  complete = λ e its done. turn_other circuits c e now Answered free refl (d.complete e its done);
  settled = λ e its. turn_settled circuits c e now free (d.settled e its);
}

pub turn_next : (f : Fixed) (s : State) (c : ℕ) (now : CircuitState) → IsTurned (circuit s.circuits c) now → Kept f s → Next f s (changed (Turns c now) s)
unfolding changed
turn_next f s c now was k = (
  record {
    circuits = length-set s.circuits c now ∙ k.circuits;
    given = k.given;
    numbered = k.numbered;
    one = k.one;
    sound = k.sound;
    decrypts = λ i m. turn_decrypts s.circuits c now i was.unsettled (k.decrypts i m);
    rounds = k.rounds;
  },
  state_later s (changed (Turns c now) s) (all_reflexive s.instances) (λ c k e. e) (set_admitted s.circuits c now was.admitted was.still
      (λ e. absurd (both_ways (is_settled (circuit s.circuits c)) was.unsettled e)) (λ e. absurd (both_ways (is_settled (circuit s.circuits c)) was.unsettled (rw e refl)))),
)

-- ---- a move

pub move_kept : (f : Fixed) (s : State) (m : Move) → Kept f s → MoveIs f s m → Kept f (moved s m)
unfolding moved instances_after fresh chosen_present
move_kept f s m k (gives_up i by none n d lost e) = rw e (give_up_kept f s i by k n d none)
move_kept f s m k (second i none n d all needed e) = rw e
    (issue_kept f s Rlk2 i.set i.id 0 k none (k.sound i n).set (k.sound i n).parties
    (λ p h. none_outside i.set.bits s.present p all h) (λ c its. cc)
    (λ _. record { first = i; issued = n; signature = d.signature; complete = d.complete; id = refl; set = refl }))
move_kept f s m k (other σ no_second none many needed e) = rw e
    (issue_kept f s σ (chosen_present f s) 0 0 k none (chosen_are_parties f.threshold (loads_of s.instances) s.present) (chosen_are_many f.threshold (loads_of s.instances) s.present many)
    (λ p h. chosen_are_members f.threshold (loads_of s.instances) s.present p h) (λ c its. needed_evaluated f s.circuits σ c needed its)
    (λ its. absurd (no_second its)))

move_later : (f : Fixed) (s : State) (m : Move) → Kept f s → MoveIs f s m → AreLater s.instances (instances_after s.instances m)
unfolding instances_after after_void
move_later f s m k (gives_up i by none n d lost e) = rw e (map_later _ s.instances (give_up_later f s i by k n d))
move_later f s m k (second i none n d all needed e) = rw e (push_later s.instances (fresh s.instances Rlk2 i.set i.id 0))
move_later f s m k (other σ no_second none many needed e) = rw e (push_later s.instances (fresh s.instances σ (chosen_present f s) 0 0))

pub move_next : (f : Fixed) (s : State) (m : Move) → Kept f s → next_move f s ≡ Some m → Next f s (moved s m)
unfolding moved
move_next f s m k e =
    let is = move_is f s m e in
    (move_kept f s m k is, state_later s (moved s m) (move_later f s m k is) (λ c k e. e) (circuits_reflexive s.circuits))

onward : (f : Fixed) (s t : State) (m : Move) → Next f s t → next_move f t ≡ Some m → Next f s (moved t m)
onward f s t m n e = let one = move_next f t m n.0 e in (one.0, later_transitive s t (moved t m) n.1 one.1)

pub issue_next : (f : Fixed) (s : State) → Kept f s → Next f s (issue f s)
issue_next f s k = issue_keeps f (Next f s) (onward f s) s (k, later_reflexive s)

-- ---- any deed, any call, any list of calls

pub deed_next : (f : Fixed) (s : State) (caller : ℕ) (c : Call) (r : Reply) (d : Deed) → Kept f s → Allows f s caller c r d → Next f s (changed d s)
unfolding changed
deed_next f s caller c r Nothing k a = (k, later_reflexive s)
deed_next f s caller c r (Joins p) k a = join_next f s p k
deed_next f s caller c r (Loses p) k a = lose_next f s p a.there k
deed_next f s caller c r (Counts i p) k a = count_next f s i p (waits f s c r i p k a) k
deed_next f s caller c r (Gives d j) k a = give_next f s d j k
deed_next f s caller c r (Turns d now) k a = turn_next f s d now (turned f s caller c r d now a) k

pub done_next : (f : Fixed) (d : Deed) (s : State) → Kept f (changed d s) → Next f (changed d s) (done f d s)
done_next f d s k = done_keeps f (Next f (changed d s)) (onward f (changed d s)) d s (k, later_reflexive (changed d s))

pub step_next : (f : Fixed) (s : State) (caller : ℕ) (c : Call) → Kept f s → Next f s (step f s caller c).1
unfolding step
step_next f s caller c k =
    let v = judge f s caller c in
    done_keeps f (Next f s) (onward f s) v.deed s (deed_next f s caller c v.reply v.deed k (judged f s caller c))

pub after_next : (f : Fixed) (s : State) (es : List Entry) → Kept f s → Next f s (after f s es)
unfolding after
after_next f s [] k = (k, later_reflexive s)
after_next f s (e ∷ es) k =
    let t : State = (step f s e.caller e.call).1 in
    let one = step_next f s e.caller e.call k in
    let rest = after_next f t es one.0 in
    (rest.0, later_transitive s t (after f t es) one.1 rest.1)

pub opening_kept : (f : Fixed) → Kept f (opening f)
unfolding opening
opening_kept f = record {
  circuits = length-map f.plans opening_of;
  given = length-map f.plans none_given;
  numbered = λ k d l. absurd (omega arith);
  one = λ i j a b same alive living. absurd (contains_nil i a);
  sound = λ i m. absurd (contains_nil i m);
  decrypts = λ i m. absurd (contains_nil i m);
  rounds = λ i m second alive. absurd (contains_nil i m);
}

pub state_kept : (f : Fixed) (es : List Entry) → Kept f (state_after f es)
state_kept f es = (after_next f (opening f) es (opening_kept f)).0

-- ---- as laws

pub calls_keep : CallsKeep
calls_keep f s caller c k = (step_next f s caller c k).0

pub histories_keep : HistoriesKeep
histories_keep f es = state_kept f es

pub calls_leave : CallsLeave
calls_leave f s caller c k = (step_next f s caller c k).1

pub histories_leave : HistoriesLeave
histories_leave f s es k = (after_next f s es k).1
