-- The sums that are told: those at the place, or the counted ones.
use Rattle.std.proofs.Common.{sym, ◌-◌, []}
use Rattle.session_state.proofs.Sources.{stands_first, told_at, new_at, other_at}
use Rattle.session_state.proofs.issuing.Source.sums.Goals as goal

pub overflow_sub-id : goal.overflow_sub-id
overflow_sub-id c = stands_first c.args.self.now.instances c.args.id c.requires.stands

pub returns-in-Some-counted : goal.returns-in-Some-counted
returns-in-Some-counted c =
    let t = c.self.inside.table.now in
    let there = told_at t.instances.items t.sums.items c.args.id [] c.in-Some.held.now (sym c.in-Some.ensures.value) in
    rw (← c.self.view_is, c.in-Some-counted.is) (new_at t.sums.items (c.args.id - 1) c.self.inside.place [] c.in-Some.held.now c.in-Some-counted.sums.now c.if-id-self.true there)

pub returns-in_default-counted : goal.returns-in_default-counted
returns-in_default-counted c =
    let t = c.self.inside.table.now in
    let there = told_at t.instances.items t.sums.items c.args.id [] c.in-Some.held.now (sym c.in-Some.ensures.value) in
    rw (← c.self.view_is, c.in-Some-counted.is) (other_at t.sums.items (c.args.id - 1) c.self.inside.place [] c.in-Some.held.now c.in-Some-counted.sums.now c.if-id-self.false there)

pub returns-in_default-counted-2 : goal.returns-in_default-counted-2
returns-in_default-counted-2 c =
    let t = c.self.inside.table.now in
    let there = told_at t.instances.items t.sums.items c.args.id [] c.in-Some.held.now (sym c.in-Some.ensures.value) in
    rw (← c.self.view_is, c.in_default-counted.is) there.value
