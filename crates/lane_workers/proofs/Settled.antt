-- A session is settled round by round, after some parties joined and lanes were followed.
use Rattle.std.proofs.Common.{◌≡◌, ◌∙◌, sym, ap, subst, refl, ℕ, suc, ◌≤◌, true, false, List, [], ◌++◌, map, inl, inr, None}
use Rattle.std.specs.List.{flat_map}
use Rattle.std.proofs.lemmas.List.{append-nil}
use Rattle.party_roll.specs.declared.roll.Roll.{Ghosts}
use Rattle.session_rules.specs.declared.call.Call.{Call}
use Rattle.session_rules.specs.declared.call.Entry.{Entry}
use Rattle.session_rules.specs.declared.line.Line.{Line}
use Rattle.session_rules.specs.declared.fixed.Fixed.{Fixed}
use Rattle.session_rules.specs.States.{State, opening}
use Rattle.session_rules.specs.Histories.{after, state_after, IsLegal}
use Rattle.session_rules.specs.Steps.{next_ready}
use Rattle.session_rules.specs.Grounds.{NoneOpened, CanSettle}
use Rattle.session_rules.specs.Tasks.{Task, own}
use Rattle.session_rules.specs.Courses.{Follows, BreaksOff, joins, lane_tasks, serial_tasks, is_settled, round_tasks, Settles, Unsettled, rounds, IsSerial}
use Rattle.session_rules.proofs.Runs.{after_append}
use Rattle.run_laws.specs.Leaving.{Leaves}
use Rattle.run_laws.specs.Settling.{SettlesAlone}
use Rattle.run_laws.proofs.Appends.{tasks_append, lanes_look}
use Rattle.run_laws.proofs.Leaving.{leaves_more, breaks_more, follows_all}
use Rattle.run_laws.proofs.MoreRounds.{SoFar, one_round, all_rounds, enough_rounds, few_rounds}
use Rattle.run_laws.proofs.Settling.{settling_ends, settling_answers}
use Rattle.session_laws.proofs.Beginnings.{rules_whole}
use Rattle.session_laws.proofs.Plans.{rules_threshold}
use Rattle.session_spec.specs.Settings.{rules}
use Rattle.session_core.specs.declared.session.Session.{Session}
use Rattle.session_core.specs.declared.stop.Stop.{Stop}
use Rattle.session_core.specs.Sessions.{Known}
use Rattle.session_core.specs.Calls.{known, state_of}
use Rattle.lane_workers.specs.Desks.{session_view}
use Rattle.lane_workers.specs.Doing.{Acted, Halted, AreRounds, AreFewRounds, AreSerial, AreFewSerial, Did, BrokeOff, Followed, Settled, StoppedSettling, Served, StoppedServing, rules_for, state_behind}
use Rattle.lane_workers.proofs.Logs.{acted_more, acted_so, halted_more, halted_so}
use Rattle.lane_workers.proofs.Acts.{as_acted, as_halted}

-- ---- states

behind_is : (f g : Fixed) (before now es : List Entry) → g ≡ f → now ≡ before ++ es → state_after g now ≡ after f (state_after f before) es
behind_is f g before now es same e = ap (λ (z : Fixed). state_after z now) same ∙ ap (state_after f) e ∙ after_append f (opening f) before es

follows_so : (f g : Fixed) (s t : State) (es : List Entry) → g ≡ f → t ≡ s → Leaves g.rows (round_tasks t) [] es → Follows f.rows (round_tasks s) es
follows_so f g s t es same e x =
    subst (λ (z : State). Follows f.rows (round_tasks z) es) e (subst (λ (z : Fixed). Follows z.rows (round_tasks t) es) same (follows_all g.rows (round_tasks t) es x))

breaks_so : (f g : Fixed) (s t : State) (es : List Entry) (next : Call) → g ≡ f → t ≡ s → BreaksOff g.rows (round_tasks t) es next → BreaksOff f.rows (round_tasks s) es next
breaks_so f g s t es next same e x =
    subst (λ (z : State). BreaksOff f.rows (round_tasks z) es next) e (subst (λ (z : Fixed). BreaksOff z.rows (round_tasks t) es next) same x)

-- those that join, and the lanes behind them
abbrev lanes_all : List (List Line) → List Task
lanes_all lanes = flat_map lane_tasks lanes

serial_is : (present : List ℕ) (lanes : List (List Line)) → serial_tasks present lanes ≡ map joins present ++ lanes_all lanes
unfolding serial_tasks
serial_is present lanes = refl

joined_then : (l : ℕ) (present : List ℕ) (lanes : List (List Line)) (a b : List Entry) → Leaves l (map joins present) [] a → Follows l (lanes_all lanes) b → Follows l (serial_tasks present lanes) (a ++ b)
joined_then l present lanes a b x y =
    subst (λ (z : List Task). Follows l z (a ++ b)) (sym (serial_is present lanes))
    (tasks_append l (map joins present) (lanes_all lanes) a b (lanes_look lanes) (follows_all l (map joins present) a x) y)

joining_breaks : (l : ℕ) (present : List ℕ) (lanes : List (List Line)) (es : List Entry) (next : Call) → BreaksOff l (map joins present) es next → BreaksOff l (serial_tasks present lanes) es next
joining_breaks l present lanes es next x =
    let us = map joins present in
    let rest = lanes_all lanes in
    subst (λ (z : List Task). BreaksOff l z es next) (sym (serial_is present lanes)) (breaks_more l (us ++ rest) us rest [] es next (record { leaves = refl }) x)

lanes_break : (l : ℕ) (present : List ℕ) (lanes : List (List Line)) (a b : List Entry) (next : Call) → Leaves l (map joins present) [] a → BreaksOff l (lanes_all lanes) b next
    → BreaksOff l (serial_tasks present lanes) (a ++ b) next
lanes_break l present lanes a b next x y =
    let us = map joins present in
    let rest = lanes_all lanes in
    let here : Leaves l (us ++ rest) rest a = leaves_more l (us ++ rest) us [] rest [] a (record { leaves = refl }) x in
    subst (λ (z : List Task). BreaksOff l z (a ++ b) next) (sym (serial_is present lanes))
    (breaks_more l (us ++ rest) rest [] a b next (subst (λ (z : List Task). Leaves l (us ++ rest) z a) (sym (append-nil rest)) here) y)

-- behind an empty history it is a history of the serial course
pub serial_history : (f : Fixed) (present : List ℕ) (lanes : List (List Line)) (now : List Entry) → Acted (AreSerial f present lanes (state_after f [])) [] now → IsSerial f present lanes now
unfolding after opening
serial_history f present lanes now x = record {
  acts = x.are.acts;
  settling = x.are.settling;
  parts = x.log ∙ x.are.parts;
  alone = subst (λ (z : List Entry). own 0 z ≡ z) (sym x.log) x.alone;
  follows = x.are.follows;
  settles = x.are.settles;
}

alone_settles : (f : Fixed) (before now : List Entry) → IsLegal f now → (x : Acted (AreRounds f (state_after f before)) before now) → SettlesAlone f 0 before x.made
alone_settles f before now legal x = record { legal = subst (λ (z : List Entry). IsLegal f z) x.log legal; alone = x.alone; settles = x.are.settles }

module _ {R : Type 0} {K : Ghosts R} where
  pub rules_are : (a b : Session R K) → known b ≡ known a → rules_for b ≡ rules_for a
  rules_are a b e = ap (λ (z : Known). rules z.setting) e

  most_is : (a b : Session R K) → known b ≡ known a → (known b).most ≡ (known a).most
  most_is a b e = ap (λ (z : Known). z.most) e

  -- ---- rounds

  -- the state of a session after some calls
  pub state_now : (old mid : Session R K) (es : List Entry) → known mid ≡ known old → state_of mid ≡ state_behind mid → mid.log.items ≡ old.log.items ++ es → state_of mid ≡ after (rules_for old) (state_behind old) es
  state_now old mid es same is e = is ∙ behind_is (rules_for old) (rules_for mid) old.log.items mid.log.items es (rules_are old mid same) e

  pub round_on : (n m : ℕ) (old mid new : Session R K) → n ≡ suc m → known mid ≡ known old → state_of mid ≡ state_behind mid → is_settled (state_of mid) ≡ false
      → Acted (SoFar n (rules_for old) (state_behind old)) old.log.items mid.log.items → Did (round_tasks (state_of mid)) (session_view mid) (session_view new) → Acted (SoFar m (rules_for old) (state_behind old)) old.log.items new.log.items
  round_on n m old mid new count same is undone x y =
      let f = rules_for old in
      let s = state_behind old in
      acted_more (SoFar n f s) (Leaves (rules_for mid).rows (round_tasks (state_of mid)) []) (SoFar m f s) old.log.items mid.log.items new.log.items x
      (as_acted (Leaves (rules_for mid).rows (round_tasks (state_of mid)) []) mid new y)
      (λ a b log before here.
      let now = state_now old mid a same is log in
      one_round m f s a b (subst (λ (k : ℕ). SoFar k f s a) count before) (subst (λ (z : State). is_settled z ≡ false) now undone)
      (follows_so f (rules_for mid) (after f s a) (state_of mid) b (rules_are old mid same) now here))

  pub round_off : (n m : ℕ) (why : Stop) (old mid new : Session R K) → n ≡ suc m → known mid ≡ known old → state_of mid ≡ state_behind mid → is_settled (state_of mid) ≡ false
      → Acted (SoFar n (rules_for old) (state_behind old)) old.log.items mid.log.items → BrokeOff (round_tasks (state_of mid)) (session_view mid) (session_view new) why → StoppedSettling old new why
  round_off n m why old mid new count same is undone x y =
      let f = rules_for old in
      let s = state_behind old in
      let Breaks = BreaksOff (rules_for mid).rows (round_tasks (state_of mid)) in
      halted_more (known old).most why (SoFar n f s) Breaks (AreFewRounds f s) old.log.items mid.log.items new.log.items x
      (subst (λ (k : ℕ). Halted k why Breaks mid.log.items new.log.items) (most_is old mid same) (as_halted why Breaks mid new y))
      (λ a b next log before here.
      let now = state_now old mid a same is log in
      record {
        unsettled = few_rounds m f s a b next (subst (λ (k : ℕ). SoFar k f s a) count before) (subst (λ (z : State). is_settled z ≡ false) now undone)
            (breaks_so f (rules_for mid) (after f s a) (state_of mid) b next (rules_are old mid same) now here);
      })

  pub rounds_over : (n : ℕ) (old mid : Session R K) → known mid ≡ known old → state_of mid ≡ state_behind mid → is_settled (state_of mid) ≡ true
      → Acted (SoFar n (rules_for old) (state_behind old)) old.log.items mid.log.items → Settled old mid
  rounds_over n old mid same is done x =
      let f = rules_for old in
      let s = state_behind old in
      acted_so (SoFar n f s) (AreRounds f s) old.log.items mid.log.items x
      (λ es log so_far. record { settles = enough_rounds n f s es so_far (subst (λ (z : State). is_settled z ≡ true) (state_now old mid es same is log) done) })

  pub rounds_done : (n : ℕ) (old mid : Session R K) → n ≡ 0 → Acted (SoFar n (rules_for old) (state_behind old)) old.log.items mid.log.items → Settled old mid
  rounds_done n old mid none x =
      let f = rules_for old in
      let s = state_behind old in
      acted_so (SoFar n f s) (AreRounds f s) old.log.items mid.log.items x (λ es log so_far. record { settles = all_rounds f s es (subst (λ (k : ℕ). SoFar k f s es) none so_far) })

  -- ---- after some parties joined and lanes were followed

  -- some have joined, and lanes were followed
  abbrev pub Readied : List ℕ → List (List Line) → Session R K → Session R K → Type 0
  Readied present lanes old new = Acted (Follows (rules_for old).rows (serial_tasks present lanes)) old.log.items new.log.items

  pub joined_followed : (present : List ℕ) (lanes : List (List Line)) (old mid new : Session R K) → known mid ≡ known old → Did (map joins present) (session_view old) (session_view mid)
      → Followed (flat_map lane_tasks lanes) (session_view mid) (session_view new) → Readied present lanes old new
  joined_followed present lanes old mid new same x y =
      let l = (rules_for old).rows in
      let lanes_follow = λ (z : Fixed). Acted (Follows z.rows (lanes_all lanes)) mid.log.items new.log.items in
      acted_more (Leaves l (map joins present) []) (Follows l (lanes_all lanes)) (Follows l (serial_tasks present lanes)) old.log.items mid.log.items new.log.items
      (as_acted (Leaves l (map joins present) []) old mid x)
      (subst lanes_follow (rules_are old mid same) (as_acted (Follows (rules_for mid).rows (lanes_all lanes)) mid new y)) (λ a b _ p q. joined_then l present lanes a b p q)

  pub followed_settled : (present : List ℕ) (lanes : List (List Line)) (old mid new : Session R K) → known mid ≡ known old → Readied present lanes old mid → Settled mid new → Served present lanes old new
  followed_settled present lanes old mid new same x y =
      let f = rules_for old in
      let s = state_behind old in
      acted_more (Follows f.rows (serial_tasks present lanes)) (AreRounds (rules_for mid) (state_behind mid)) (AreSerial f present lanes s) old.log.items mid.log.items new.log.items x y
      (λ a b log acts settling.
      let now = behind_is f (rules_for mid) old.log.items mid.log.items a (rules_are old mid same) log in
      record {
        acts = a;
        settling = b;
        parts = refl;
        follows = acts;
        settles = subst (λ (z : State). Settles rounds f 0 z b) now (subst (λ (z : Fixed). Settles rounds z 0 (state_behind mid) b) (rules_are old mid same) settling.settles);
      })

  pub joining_stopped : (present : List ℕ) (lanes : List (List Line)) (why : Stop) (old new : Session R K) → BrokeOff (map joins present) (session_view old) (session_view new) why → StoppedServing present lanes old new why
  joining_stopped present lanes why old new x =
      let f = rules_for old in
      halted_so (known old).most why (BreaksOff f.rows (map joins present)) (AreFewSerial f present lanes (state_behind old)) old.log.items new.log.items
      (as_halted why (BreaksOff f.rows (map joins present)) old new x)
      (λ es next broke. record { begins = inl (joining_breaks f.rows present lanes es next broke) })

  pub lanes_stopped : (present : List ℕ) (lanes : List (List Line)) (why : Stop) (old mid new : Session R K) → known mid ≡ known old → Did (map joins present) (session_view old) (session_view mid) → BrokeOff (flat_map lane_tasks lanes) (session_view mid) (session_view new) why
      → StoppedServing present lanes old new why
  lanes_stopped present lanes why old mid new same x y =
      let f = rules_for old in
      let Broke = λ (z : Fixed). BreaksOff z.rows (lanes_all lanes) in
      halted_more (known old).most why (Leaves f.rows (map joins present) []) (Broke f) (AreFewSerial f present lanes (state_behind old)) old.log.items mid.log.items new.log.items
      (as_acted (Leaves f.rows (map joins present) []) old mid x)
      (subst (λ (z : Fixed). Halted (known old).most why (Broke z) mid.log.items new.log.items) (rules_are old mid same)
      (subst (λ (k : ℕ). Halted k why (Broke (rules_for mid)) mid.log.items new.log.items) (most_is old mid same) (as_halted why (Broke (rules_for mid)) mid new y)))
      (λ a b next _ p q. record { begins = inl (lanes_break f.rows present lanes a b next p q) })

  pub settling_stopped : (present : List ℕ) (lanes : List (List Line)) (why : Stop) (old mid new : Session R K) → known mid ≡ known old → Readied present lanes old mid → StoppedSettling mid new why
      → StoppedServing present lanes old new why
  settling_stopped present lanes why old mid new same x y =
      let f = rules_for old in
      let s = state_behind old in
      let Few = AreFewRounds (rules_for mid) (state_behind mid) in
      halted_more (known old).most why (Follows f.rows (serial_tasks present lanes)) Few (AreFewSerial f present lanes s) old.log.items mid.log.items new.log.items x
      (subst (λ (k : ℕ). Halted k why Few mid.log.items new.log.items) (most_is old mid same) y)
      (λ a b next log acts settling.
      let now = behind_is f (rules_for mid) old.log.items mid.log.items a (rules_are old mid same) log in
      let rest = subst (λ (z : State). Unsettled rounds f 0 z b next) now (subst (λ (z : Fixed). Unsettled rounds z 0 (state_behind mid) b next) (rules_are old mid same) settling.unsettled) in
      record { begins = inr (a, b, refl, acts, rest) })

  -- ---- what settling comes to

  -- the rules and the state of a session that was settled
  pub record Rests (old new : Session R K) : Type 0 where
    pub none_opened : NoneOpened (state_of new)
    pub none_ready : next_ready (rules_for new) (state_of new) ≡ None
    pub answered : CanSettle (rules_for old) (state_of old) → is_settled (state_of new) ≡ true

  pub rests : (old new : Session R K) → known new ≡ known old → state_of old ≡ state_behind old → state_of new ≡ state_behind new → IsLegal (rules_for new) new.log.items
      → 1 ≤ (known old).params.threshold → Settled old new → Rests old new
  rests old new same was is legal some_ x =
      let f = rules_for old in
      let g = rules_for new in
      let e = rules_are old new same in
      let before = old.log.items in
      let whole = rules_whole (known old).setting in
      let some_here : 1 ≤ f.threshold = subst (λ (n : ℕ). 1 ≤ n) (sym (rules_threshold (known old).setting)) some_ in
      let alone = alone_settles f before new.log.items (subst (λ (z : Fixed). IsLegal z new.log.items) e legal) x in
      let now : state_of new ≡ state_after f (before ++ x.made) = is ∙ ap (λ (z : Fixed). state_after z new.log.items) e ∙ ap (state_after f) x.log in
      let end = settling_ends f 0 before x.made whole some_here alone in
      record {
        none_opened = subst (λ (z : State). NoneOpened z) (sym now) end.0;
        none_ready = subst (λ (z : Fixed). next_ready z (state_of new) ≡ None) (sym e) (subst (λ (z : State). next_ready f z ≡ None) (sym now) end.1);
        answered = λ can. subst (λ (z : State). is_settled z ≡ true) (sym now)
            (settling_answers f 0 before x.made whole some_here alone (subst (λ (z : State). CanSettle f z) was can));
      }
