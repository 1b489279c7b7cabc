-- Who is present and sends gives each share that it owes, and each input once there is a public key.
use Rattle.std.proofs.Common.{◌≡◌, ◌∙◌, sym, subst, refl, ℕ, ◌≤◌, ◌<◌, ap, true, false, not, inl, inr, List, [], ◌∷◌, ◌++◌, length, map, filter, Contains, Option, Some, arith}
use Rattle.std.specs.Prelude.{nat_eq}
use Rattle.std.specs.List.{range_with_len, flat_map}
use Rattle.std.specs.Option.{option_map}
use Rattle.std.proofs.lemmas.List.{get_or_past}
use Rattle.std.proofs.lemmas.Bool.{cases_Bool, cases_lt, and_from, eq-eqb, not_from_false}
use Rattle.std.proofs.lemmas.List.Elements.{Contains-append_left, Contains-append_right}
use Rattle.share_spec.specs.Sets.{has}
use Rattle.proto_names.specs.Names.{rows_of}
use Rattle.proto_names.specs.Instances.{instance, lacks, with_share, owed_shares, id_of}
use Rattle.proto_names.specs.declared.signature.Signature.{Signature}
use Rattle.proto_names.specs.declared.signature.Signature.TheVariants.{Pk}
use Rattle.proto_names.specs.declared.sets.PartySet.{PartySet}
use Rattle.proto_names.specs.declared.instance.Instance.{Instance}
use Rattle.proto_names.specs.declared.instance.Stage.TheVariants.{Opened}
use Rattle.session_rules.specs.declared.call.Call.{Call}
use Rattle.session_rules.specs.declared.call.Call.TheVariants as call
use Rattle.session_rules.specs.declared.fixed.Fixed.{Fixed}
use Rattle.session_rules.specs.declared.fixed.Plan.{Plan}
use Rattle.session_rules.specs.States.{State, plan, no_plan, is_given, has_done}
use Rattle.session_rules.specs.declared.deed.Deed.TheVariants.{Counts as Counted}
use Rattle.session_rules.specs.Issues.{issue}
use Rattle.session_rules.specs.Deeds.{changed}
use Rattle.session_rules.specs.Steps.{is_input, lacks_input, place, owed_of, owed_inputs, step}
use Rattle.session_rules.specs.Tasks.{Task, Lists, shares, delivers, gives, gives_at, share_for, owing, delivering, leaves}
use Rattle.session_rules.specs.Courses.{sends}
use Rattle.session_rules.specs.Facts.{Kept, IsLater, TakesPart}
use Rattle.session_rules.specs.Grounds.{GaveAll}
use Rattle.session_rules.proofs.Contained.{contains_nil, contains_cases, contains_map, contains_filter, contains_range}
use Rattle.session_rules.proofs.Deliveries.{keys_stay}
use Rattle.session_rules.proofs.Grounds.{KeptWell, step_grounds}
use Rattle.session_rules.proofs.Keeps.{count_next, issue_next, step_next}
use Rattle.session_rules.proofs.Later.{later_reflexive, later_transitive}
use Rattle.session_rules.proofs.Marks.{found, Lacks, lacks_from, numbered_at, one_number, opened_lives, instance_within}
use Rattle.session_rules.proofs.PartySets.{has_party, with_has}
use Rattle.session_rules.proofs.Within.{was_or_new, itself, another, counted_from}
use Rattle.run_laws.proofs.Walks.{Settles, AllSettle, Leads, asks, leads_first, leads_keep, arrives, all_map, all_append}
use Rattle.run_laws.proofs.Calls.{pending_stays, lists, brief_stays, briefs, Counts, counts, completes, owner, share_counts, input_place, input_gives, task_present}

-- ---- what calls keep

abbrev Onward : Fixed → State → State → Type 0
Onward f s t = Kept f t × IsLater s t

onward_step : (f : Fixed) (who : ℕ) (s t : State) (c : Call) → Onward f s t → Onward f s (step f t who c).1
onward_step f who s t c o = let next = step_next f t who c o.0 in (next.0, later_transitive s t (step f t who c).1 o.1 next.1)

leads_on : (f : Fixed) (who n : ℕ) (s : State) (ts : List Task) (t : State) → Leads f who n s ts t → Kept f s → Onward f s t
leads_on f who n s ts t h k = leads_keep f who (Onward f s) (λ u c o. onward_step f who s u c o) n s ts t h (k, later_reflexive s)

pub leads_well : (f : Fixed) (who n : ℕ) (s : State) (ts : List Task) (t : State) → Leads f who n s ts t → KeptWell f s → KeptWell f t
leads_well f who n s ts t h k = leads_keep f who (KeptWell f) (λ u c w. step_grounds f u who c w) n s ts t h k

-- calls that do some tasks of settling, from a state that calls lead to
pub record Doing (f : Fixed) (who : ℕ) (W : Type 0) (s : State) (ts : List Task) (t : State) : Type 0 where
  pub calls : ℕ
  pub leads : Leads f who calls s ts t
  pub all : AllSettle W ts
  pub well : KeptWell f s

-- a state and a later one, with the same parties
record Along (f : Fixed) (base s : State) : Type 0 where
  well : KeptWell f s
  later : IsLater base s
  present : s.present ≡ base.present

along_step : (f : Fixed) (who : ℕ) (W : Type 0) (base s : State) (x : Task) → Settles W x → Along f base s → Along f base (step f s who (asks x)).1
along_step f who W base s x h a = record {
  well = step_grounds f s who (asks x) a.well;
  later = (onward_step f who base s (asks x) (a.well.0, a.later)).1;
  present = task_present W f s who x h ∙ a.present;
}

-- ---- one share

-- the party's share of an instance is counted, or it isn't opened
abbrev Gave : ℕ → ℕ → State → Type 0
Gave p id s = (i : Instance) → Contains s.instances i → i.id ≡ id → i.stage ≡ Opened → has i.set.bits p ≡ true → has i.sent.bits p ≡ true

gave_later : (f : Fixed) (p id : ℕ) (s t : State) → id ≤ length s.instances → Onward f s t → Gave p id s → Gave p id t
gave_later f p id s t l on gave i m e opened member = elim (was_or_new f s t i on.0 on.1 m) [
  | inr new ↦ absurd (omega arith)
  | inl was ↦
      let same = was.same in
      same.sent p (gave was.before was.within (sym same.id ∙ e) (same.opened opened) (subst (λ (z : PartySet). has z.bits p ≡ true) same.set member))
]

has_share : (p : ℕ) (i : Instance) → 1 ≤ p → p ≤ 32 → has (with_share p i).sent.bits p ≡ true
unfolding with_share
has_share p i first last = with_has i.sent.bits p first last

-- where it is counted, it has sent
count_gives : (f : Fixed) (s : State) (p : ℕ) (i : Instance) → Kept f s → instance s.instances i.id ≡ Some i → has i.set.bits p ≡ true → Gave p i.id (changed (Counted i p) s)
unfolding changed
count_gives f s p i k found_ member j m e opened member_ =
    let range = has_party i.set.bits p member in
    let there = instance_within s.instances i.id i found_ in
    elim (counted_from s.instances i j p (λ a n h. one_number s.instances a i k.numbered n there h) m) [
      | itself same_ ↦ subst (λ (z : Instance). has z.sent.bits p ≡ true) (sym same_) (has_share p i range.0 range.1)
      | another n apart ↦ absurd (apart e)
    ]

counted_gives : (f : Fixed) (s t : State) (p : ℕ) (i : Instance) → Kept f s → TakesPart s i.id p i → i.stage ≡ Opened → has i.sent.bits p ≡ false → Counts f s p i t → Gave p i.id t
counted_gives f s t p i k part opened unsent (counts e) = subst (Gave p i.id) (sym e) (count_gives f s p i k part.issued part.member)
counted_gives f s t p i k part opened unsent (completes e) =
    let u = changed (Counted i p) s in
    let m = instance_within s.instances i.id i part.issued in
    let id = numbered_at s.instances i k.numbered m in
    let l = m.1 in
    let there = count_next f s i p (record { within = m; opened = opened; member = part.member; unsent = unsent }) k in
    let longer = there.1.issued in
    subst (Gave p i.id) (sym e) (gave_later f p i.id u (issue f u) (omega arith) (issue_next f u there.0) (count_gives f s p i k part.issued part.member))

-- once a share is sent, no opened instance of that number lacks it
share_gives : (f : Fixed) (who : ℕ) (W : Type 0) (p : ℕ) (s : State) (id : ℕ) (ts : List Task) (t : State) → Doing f who W s (shares p id ∷ ts) t → id ≤ length s.instances → Gave p id t
unfolding delivering
share_gives f who W p s id ts t d l i m e opened member =
    let k = d.well.0 in
    let on = leads_on f who d.calls s (shares p id ∷ ts) t d.leads k in
    elim (was_or_new f s t i on.0 on.1 m) [
      | inr new ↦ absurd (omega arith)
      | inl was ↦
          let same = was.same in
          let a = was.before in
          let before : a.stage ≡ Opened = same.opened opened in
          let its : has a.set.bits p ≡ true = subst (λ (z : PartySet). has z.bits p ≡ true) same.set member in
          let there = was.within in
          let at : instance s.instances a.id ≡ Some a = found s.instances a k.numbered there in
          elim (cases_Bool (has a.sent.bits p)) [
            | inl sent_ ↦ same.sent p sent_
            | inr unsent ↦
                let number : id ≡ a.id = sym e ∙ same.id in
                let asked = leads_first f who d.calls s (shares p a.id) ts t (subst (λ (z : ℕ). Leads f who d.calls s (shares p z ∷ ts) t) number d.leads) in
                let told : Leads f who asked.0 s (delivers (share_for f.rows p a.id a.signature) ∷ ts) t =
                subst (λ (z : Option Signature). Leads f who asked.0 s (delivering (option_map (share_for f.rows p a.id) z) ++ ts) t) (briefs f s who a at before)
                (subst (λ (z : State). Leads f who asked.0 z (leaves f.rows (shares p a.id) (step f s who (call.Brief a.id)).0 ++ ts) t) (brief_stays f s who a.id) asked.1) in
                let sent = leads_first f who asked.0 s (delivers (share_for f.rows p a.id a.signature)) ts t told in
                let part : TakesPart s a.id p a = record { issued = at; member = its; lives = opened_lives a before } in
                let u = (step f s who (call.Deliver a.id p (rows_of a.signature f.rows))).1 in
                let now = step_next f s who (call.Deliver a.id p (rows_of a.signature f.rows)) k in
                let longer = now.1.issued in
                let rest = leads_on f who sent.0 u ts t sent.1 now.0 in
                gave_later f p a.id u t (omega arith) rest (counted_gives f s u p a k part before unsent (share_counts f s who a.id p a k part unsent)) i m (e ∙ number) opened member
          ]
    ]

-- ---- all shares

owed : (p : ℕ) (is : List Instance) (i : Instance) → Contains is i → Lacks p i → Contains (owed_shares p is) i.id
unfolding owed_shares
owed p is i m l = contains_map id_of (filter (lacks p) is) i (contains_filter (lacks p) is i m (lacks_from p i l))

-- ---- what is owed of inputs

contains_flat : {X Y : Type 0} (g : X → List Y) (xs : List X) (x : X) (y : Y) → Contains xs x → Contains (g x) y → Contains (flat_map g xs) y
contains_flat g [] x y m n = absurd (contains_nil x m)
contains_flat {Y = Y} g (z ∷ zs) x y m n = elim (contains_cases z zs x m) [
  | inl here ↦ Contains-append_left (g z) (flat_map g zs) y (rw here n)
  | inr more ↦ Contains-append_right (g z) (flat_map g zs) y (contains_flat g zs x y more n)
]

lacking_input : (f : Fixed) (s : State) (p c k : ℕ) → owner f c k ≡ p → is_given s c k ≡ false → lacks_input f s p c k ≡ true
unfolding lacks_input
lacking_input f s p c k e none = and_from (nat_eq (owner f c k) p) (not (is_given s c k)) (eq-eqb (owner f c k) p e) (not_from_false (is_given s c k) none)

owed_one : (f : Fixed) (s : State) (p c k : ℕ) → is_input f c k ≡ true → lacks_input f s p c k ≡ true → Contains (owed_of f s p c) (c, k)
unfolding owed_of
owed_one f s p c k its lacks_ =
    let at = input_place f c k its in
    let l = at.1 in
    let m = contains_map (place c) (filter (lacks_input f s p c) (range_with_len 0 (length (plan f c).owners))) k
    (contains_filter (lacks_input f s p c) (range_with_len 0 (length (plan f c).owners)) k (contains_range 0 (length (plan f c).owners) k (omega arith) (omega arith)) lacks_) in
    rw (at.0) m

input_circuit : (f : Fixed) (c k : ℕ) → is_input f c k ≡ true → c < length f.plans
input_circuit f c k its = elim (cases_lt c (length f.plans)) [
  | inl less ↦ less
  | inr more ↦ let l = (input_place f c k its).1 in let e : length (plan f c).owners ≡ 0 = ap (λ (z : Plan). length z.owners) (get_or_past f.plans c no_plan more) in absurd (omega arith)
]

owed_all : (f : Fixed) (s : State) (p c k : ℕ) → has_done Pk s.instances ≡ true → is_input f c k ≡ true → lacks_input f s p c k ≡ true → Contains (owed_inputs f s p) (c, k)
unfolding owed_inputs
owed_all f s p c k done its lacks_ =
    let l = input_circuit f c k its in
    let m = contains_flat (owed_of f s p) (range_with_len 0 (length f.plans)) c (c, k) (contains_range 0 (length f.plans) c (omega arith) (omega arith)) (owed_one f s p c k its lacks_) in
    rw done m

-- ---- all that is owed

all_owed : (W : Type 0) (p : ℕ) (ids : List ℕ) (places : List (ℕ × ℕ)) (ts : List Task) → AllSettle W ts → AllSettle W ((map (shares p) ids ++ map gives_at places) ++ ts)
all_owed W p ids places ts all =
    all_append W (map (shares p) ids ++ map gives_at places) ts
    (all_append W (map (shares p) ids) (map gives_at places) (all_map W (shares p) ids (λ id. tt)) (all_map W gives_at places (λ place. tt))) all

module _ (f : Fixed) (who : ℕ) (W : Type 0) where
  abbrev Does : State → List Task → State → Type 0
  Does s ts t = Doing f who W s ts t

  -- the calls from one of the tasks on
  record Comes (s : State) (x : Task) (t : State) : Type 0 where
    at : State
    behind : List Task
    doing : Does at (x ∷ behind) t
    later : IsLater s at
    present : at.present ≡ s.present

  comes : (s : State) (ts : List Task) (t : State) (x : Task) → Does s ts t → Contains ts x → Comes s x t
  comes s ts t x d m =
      let a = arrives f who W (Along f s) (along_step f who W s) d.calls s ts t x d.leads d.all m (record { well = d.well; later = later_reflexive s; present = refl }) in
      record { at = a.at; behind = a.behind; doing = record { calls = a.calls; leads = a.leads; all = a.all; well = a.kept.well }; later = a.kept.later; present = a.kept.present }

  onward : (s : State) (ts : List Task) (t : State) → Does s ts t → Onward f s t
  onward s ts t d = leads_on f who d.calls s ts t d.leads d.well.0

  -- what one who is present is to do
  sends_first : (p : ℕ) (s : State) (ts : List Task) (t : State) → Does s (sends p ∷ ts) t → has s.present p ≡ true → Does s ((map (shares p) (owed_shares p s.instances) ++ map gives_at (owed_inputs f s p)) ++ ts) t
  unfolding owing
  sends_first p s ts t d there =
      let asked = leads_first f who d.calls s (sends p) ts t d.leads in
      record {
        calls = asked.0;
        leads = subst (λ (z : Option Lists). Leads f who asked.0 s (owing p z ++ ts) t) (lists f s who p there)
            (subst (λ (z : State). Leads f who asked.0 z (leaves f.rows (sends p) (step f s who (call.Pending p)).0 ++ ts) t) (pending_stays f s who p) asked.1);
        all = all_owed W p (owed_shares p s.instances) (owed_inputs f s p) ts d.all.1;
        well = d.well;
      }

  shares_give : (p : ℕ) (s : State) (ts : List Task) (t : State) (id : ℕ) → Does s ts t → Contains ts (shares p id) → id ≤ length s.instances → Gave p id t
  shares_give p s ts t id d m l =
      let c = comes s ts t (shares p id) d m in
      let longer = c.later.issued in
      share_gives f who W p c.at id c.behind t c.doing (omega arith)

  -- who is present and sends gives its share of each instance that was there
  pub sends_give : (p : ℕ) (s : State) (ts : List Task) (t : State) → Does s ts t → Contains ts (sends p) → has s.present p ≡ true → GaveAll p (length s.instances) t
  sends_give p s ts t d m there i within few opened member =
      let c = comes s ts t (sends p) d m in
      let u = c.at in
      let longer = c.later.issued in
      let on = onward u (sends p ∷ c.behind) t c.doing in
      let ids = map (shares p) (owed_shares p u.instances) in
      let places = map gives_at (owed_inputs f u p) in
      elim (was_or_new f u t i on.0 on.1 within) [
        | inr new ↦ absurd (omega arith)
        | inl was ↦
            let same = was.same in
            let x = was.before in
            let its : has x.set.bits p ≡ true = subst (λ (z : PartySet). has z.bits p ≡ true) same.set member in
            let short : x.id ≤ length s.instances = subst (λ (z : ℕ). z ≤ length s.instances) same.id few in
            elim (cases_Bool (has x.sent.bits p)) [
              | inl sent_ ↦ same.sent p sent_
              | inr unsent ↦
                  let lacks_ = owed p u.instances x was.within (record { opened = same.opened opened; member = its; unsent = unsent }) in
                  shares_give p u ((ids ++ places) ++ c.behind) t x.id (sends_first p u c.behind t c.doing (subst (λ (z : ℕ). has z p ≡ true) (sym c.present) there))
                  (Contains-append_left (ids ++ places) c.behind (shares p x.id) (Contains-append_left ids places (shares p x.id) (contains_map (shares p) (owed_shares p u.instances) x.id lacks_)))
                  (omega arith) i within same.id opened member
            ]
      ]

  gives_one : (s : State) (ts : List Task) (t : State) (c k : ℕ) → Does s (gives c k ∷ ts) t → is_input f c k ≡ true → has_done Pk s.instances ≡ true → has s.present (owner f c k) ≡ true → is_given t c k ≡ true
  gives_one s ts t c k d its done there =
      let asked = leads_first f who d.calls s (gives c k) ts t d.leads in
      let on = leads_on f who asked.0 (step f s who (call.Input c k)).1 ts t asked.1 (step_next f s who (call.Input c k) d.well.0).0 in
      on.1.given c k (input_gives f s who c k d.well.1 its done there)

  -- and, where there was a public key, each of its inputs
  pub sends_inputs : (s : State) (ts : List Task) (t : State) (c k : ℕ) → Does s ts t → Contains ts (sends (owner f c k)) → is_input f c k ≡ true → has_done Pk s.instances ≡ true → has s.present (owner f c k) ≡ true
      → is_given t c k ≡ true
  sends_inputs s ts t c k d m its done there =
      let p = owner f c k in
      let a = comes s ts t (sends p) d m in
      let u = a.at in
      let now : has u.present p ≡ true = subst (λ (z : ℕ). has z p ≡ true) (sym a.present) there in
      let key = keys_stay s u Pk a.later (λ e. cc) done in
      let ids = map (shares p) (owed_shares p u.instances) in
      let places = map gives_at (owed_inputs f u p) in
      elim (cases_Bool (is_given u c k)) [
        | inl before ↦ (onward u (sends p ∷ a.behind) t a.doing).1.given c k before
        | inr none ↦
            let b = comes u ((ids ++ places) ++ a.behind) t (gives c k) (sends_first p u a.behind t a.doing now) (Contains-append_left (ids ++ places) a.behind (gives c k)
            (Contains-append_right ids places (gives c k) (contains_map gives_at (owed_inputs f u p) (c, k) (owed_all f u p c k key its (lacking_input f u p c k refl none))))) in
            gives_one b.at b.behind t c k b.doing its (keys_stay u b.at Pk b.later (λ e. cc) key) (subst (λ (z : ℕ). has z p ≡ true) (sym b.present) now)
      ]
