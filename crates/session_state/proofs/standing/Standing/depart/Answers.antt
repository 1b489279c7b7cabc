-- What lacks the share is void then, and the first round of a second one that does; of what isn't void afterwards
-- nothing has changed.
use Rattle.std.proofs.Common.{◌≡◌, ◌∙◌, sym, ap, subst, ℕ, List, map, Option, Some, None}
use Rattle.proto_names.specs.Groups.{without_party}
use Rattle.proto_names.specs.Instances.{after_void, after_lost}
use Rattle.proto_names.specs.declared.instance.Instance.{Instance}
use Rattle.session_rules.specs.declared.deed.Deed.TheVariants.{Loses}
use Rattle.session_rules.specs.States.{State}
use Rattle.session_rules.specs.Deeds.{changed}
use Rattle.session_rules.specs.Facts.{Kept}
use Rattle.session_spec.specs.Honesty.{Matches}
use Rattle.session_spec.specs.Stores.{held_key}
use Rattle.session_state.specs.Losings.{first_lost, without}
use Rattle.session_state.specs.Parts.{Holds}
use Rattle.session_state.specs.Standings.{setting, rules_of, state, store}
use Rattle.session_state.specs.declared.standing.Standing.{Standing}
use Rattle.session_state.proofs.Losses.{none_given_up, one_given_up, first_stands, lost_holds, lost_matches, lost_held, lost_is}
use Rattle.session_state.proofs.standing.Standing.depart.Goals as goal

-- where the table has these instances then, and these are present
module _ (st : Standing) (p present : ℕ) (is : List Instance) (k : Kept (rules_of st) (state st)) (gone : present ≡ without_party st.present.bits p)
    (same : is ≡ map (without p (first_lost p st.table.instances.items)) st.table.instances.items) where
  then_state : record (state st) { present = present; instances = is } ≡ changed (Loses p) (state st)
  then_state = lost_is (rules_of st) (state st) p present is k gone same

  then_matches : Matches (setting st) (record (state st) { present = present; instances = is }) (store st)
  then_matches = subst (λ (t : State). Matches (setting st) t (store st)) (sym then_state) (lost_matches (setting st) (state st) (store st) p st.matches)

  module _ (kept_then : Kept (rules_of st) (changed (Loses p) (state st))) where
    then_holds : Holds st.params (record (state st) { present = present; instances = is }) (store st)
    then_holds = subst (λ (t : State). Holds st.params t (store st)) (sym then_state) (lost_holds (rules_of st) (state st) p k kept_then st.params (store st) st.holds)

    then_held : held_key (setting st) (store st) is ≡ held_key (setting st) (store st) st.table.instances.items
    then_held = ap (λ (t : State). held_key (setting st) (store st) t.instances) then_state ∙ lost_held (rules_of st) (state st) p k kept_then (setting st) (store st)

-- both steps, and the first one alone
some_then : (p id : ℕ) (first : Option ℕ) (is mid now : List Instance) → now ≡ after_void id p mid → mid ≡ after_lost p is → first ≡ Some id → first ≡ first_lost p is
    → now ≡ map (without p (first_lost p is)) is
some_then p id first is mid now e m some same =
    e ∙ ap (after_void id p) m ∙ one_given_up p id is ∙ ap (λ (o : Option ℕ). map (without p o) is) (sym some ∙ same)

none_then : (p : ℕ) (first : Option ℕ) (is now : List Instance) → now ≡ after_lost p is → first ≡ None → first ≡ first_lost p is → now ≡ map (without p (first_lost p is)) is
none_then p first is now e none same = e ∙ none_given_up p is ∙ ap (λ (o : Option ℕ). map (without p o) is) (sym none ∙ same)

pub void-requires : goal.void-requires
void-requires c =
    let st = c.args.self.now in
    record {
      stands = rw c.lose.ensures.instances (first_stands (rules_of st) (state st) c.requires.kept c.args.p c.in-Some.id (sym c.in-Some.is ∙ c.requires.first));
    }

pub invariant_of-self : goal.invariant_of-self
invariant_of-self c =
    let st = c.args.self.now in
    let p = c.args.p in
    let present = c.without-self.result.bits in
    let is = c.void.new.self.instances.items in
    let gone = c.without-self.ensures in
    let k = c.requires.kept in
    let same = some_then p c.in-Some.id c.args.first st.table.instances.items c.lose.new.self.instances.items is c.void.ensures.instances c.lose.ensures.instances c.in-Some.is c.requires.first in
    let briefs = c.void.ensures.briefs ∙ c.lose.ensures.briefs in
    let sums = c.void.ensures.sums ∙ c.lose.ensures.sums in
    record {
      ring_is = st.ring_is;
      groups_are = st.groups_are;
      grouped = rw briefs st.grouped;
      table_is = c.void.ensures.ring ∙ c.lose.ensures.ring ∙ st.table_is;
      rules_are = st.rules_are;
      needed_are = st.needed_are;
      setting_is = st.setting_is;
      few = st.few;
      lengths = st.lengths;
      few_inputs = st.few_inputs;
      few_turns = st.few_turns;
      matches = rw (briefs, sums) (then_matches st p present is k gone same);
      holds = rw (briefs, sums) (then_holds st p present is k gone same c.requires.kept_then);
      keyed = rw (briefs, sums) (st.keyed ∙ sym (then_held st p present is k gone same c.requires.kept_then));
    }

pub invariant_of-self-in_default : goal.invariant_of-self-in_default
invariant_of-self-in_default c =
    let st = c.args.self.now in
    let p = c.args.p in
    let present = c.without-self.result.bits in
    let is = c.lose.new.self.instances.items in
    let gone = c.without-self.ensures in
    let k = c.requires.kept in
    let same = none_then p c.args.first st.table.instances.items is c.lose.ensures.instances c.in_default.is c.requires.first in
    let e = c.lose.ensures in
    record {
      ring_is = st.ring_is;
      groups_are = st.groups_are;
      grouped = rw e.briefs st.grouped;
      table_is = e.ring ∙ st.table_is;
      rules_are = st.rules_are;
      needed_are = st.needed_are;
      setting_is = st.setting_is;
      few = st.few;
      lengths = st.lengths;
      few_inputs = st.few_inputs;
      few_turns = st.few_turns;
      matches = rw (e.briefs, e.sums) (then_matches st p present is k gone same);
      holds = rw (e.briefs, e.sums) (then_holds st p present is k gone same c.requires.kept_then);
      keyed = rw (e.briefs, e.sums) (st.keyed ∙ sym (then_held st p present is k gone same c.requires.kept_then));
    }

pub returns-in-Some-clause-state : goal.returns-in-Some-clause-state
returns-in-Some-clause-state c =
    let st = c.args.self.now in
    let p = c.args.p in
    let is = c.void.new.self.instances.items in
    then_state st p c.without-self.result.bits is c.requires.kept c.without-self.ensures
    (some_then p c.in-Some.id c.args.first st.table.instances.items c.lose.new.self.instances.items is c.void.ensures.instances c.lose.ensures.instances c.in-Some.is c.requires.first)

pub returns-in_default-clause-state : goal.returns-in_default-clause-state
returns-in_default-clause-state c =
    let st = c.args.self.now in
    let p = c.args.p in
    let is = c.lose.new.self.instances.items in
    then_state st p c.without-self.result.bits is c.requires.kept c.without-self.ensures
    (none_then p c.args.first st.table.instances.items is c.lose.ensures.instances c.in_default.is c.requires.first)
