-- The instance is opened, so it has sums: as many rows as its shares do.
use Rattle.std.proofs.Common.{◌≡◌, ◌∙◌, sym, ap, subst, ℕ, List, arith, [], length, Some}
use Rattle.std.specs.Prelude.{IsSome, IfOk}
use Rattle.param_set.specs.declared.params.Params.{Params}
use Rattle.mod_ring.specs.declared.ring.Ring.{Ring}
use Rattle.proto_names.specs.Names.{rows_of}
use Rattle.proto_names.specs.declared.instance.Instance.{Instance}
use Rattle.instance_table.specs.Tables.{told, rows_sum}
use Rattle.instance_table.proofs.Places.{told_entry}
use Rattle.session_spec.specs.Stores.{with_rows}
use Rattle.session_state.specs.Standings.{state, rules_of}
use Rattle.session_state.specs.Wanted.{IsWanted}
use Rattle.session_state.specs.declared.standing.Standing.{Standing}
use Rattle.session_state.proofs.Counting.{stands_so, wanted_rows, sums_within, sums_then}
use Rattle.session_state.proofs.Planned.{ok_then}
use Rattle.session_state.proofs.standing.Standing.sums_with.Goals as goal

pub unreachable-requires : goal.unreachable-requires
unreachable-requires c =
    let want = c.requires.wanted in
    let some : IsSome c.sums.result = c.sums.ensures.while_it_stands.1 (stands_so (state c.args.self.now).instances c.args.share.now.id c.args.instance.now want.issued want.opened) in
    let none = c.in-None.is in
    grind arith

-- as many rows as are awaited
held_number : (st : Standing) (id party n : ℕ) (i : Instance) (held : List (List ℕ)) → IsWanted (rules_of st) (state st) id party n i
    → told st.table.instances.items st.table.sums.items id ≡ Some held → n ≡ length held
held_number st id party n i held want is = wanted_rows st id party n i want ∙ ap length (told_entry st.table.instances.items st.table.sums.items id held [] is)

pub with_rows_of-requires-clause-number : goal.with_rows_of-requires-clause-number
with_rows_of-requires-clause-number c =
    let share = c.args.share.now in
    held_number c.args.self.now share.id share.party (length share.rows) c.args.instance.now c.in-Some.held.now c.requires.wanted (sym c.in-Some.ensures.value)

pub returns-clause-value : goal.returns-clause-value
unfolding with_rows
returns-clause-value c =
    let st = c.args.self.now in let t = st.table in let id = c.args.share.now.id in let rows = c.args.share.now.rows in let held = c.in-Some.held.now in
    let want = c.requires.wanted in
    let ring : c.deref.result.now.params ≡ st.params = ap (λ (r : Ring). r.params) c.deref.ensures ∙ st.ring_is in
    let value : IfOk c.with_rows_of.result (λ sums. sums ≡ rows_sum st.params.q st.params.n held rows) =
    subst (λ (p : Params). IfOk c.with_rows_of.result (λ sums. sums ≡ rows_sum p.q p.n held rows)) ring c.with_rows_of.ensures.value in
    let within = sums_within t.params t.instances.items t.sums.items id c.args.instance.now t.rows want.issued in
    let is : told t.instances.items t.sums.items id ≡ Some held = sym c.in-Some.ensures.value in
    rw (sums_then st.params.q st.params.n id rows t.instances.items t.sums.items held within is) value

pub returns-clause-number : goal.returns-clause-number
returns-clause-number c =
    let st = c.args.self.now in let share = c.args.share.now in let i = c.args.instance.now in let held = c.in-Some.held.now in
    let want = c.requires.wanted in
    let many : length share.rows ≡ length held = held_number st share.id share.party (length share.rows) i held want (sym c.in-Some.ensures.value) in
    ok_then c.with_rows_of.result (λ sums. length sums ≡ length held) (λ sums. length sums ≡ rows_of i.signature (rules_of st).rows)
    (λ sums e. e ∙ sym many ∙ sym want.shape) c.with_rows_of.ensures.number
