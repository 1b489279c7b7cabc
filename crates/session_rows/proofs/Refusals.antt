-- Histories of single calls, refused ones among them.
use Rattle.std.proofs.Common.{[], ◌∷◌, true, false, refl}
use Rattle.proto_names.specs.declared.signature.Signature.TheVariants.{Pk, Rot, Dec}
use Rattle.proto_names.specs.declared.instance.Stage.TheVariants.{Opened, Complete, Void}
use Rattle.session_rules.specs.declared.call.Call.TheVariants as call
use Rattle.session_rules.specs.declared.reply.Reply.TheVariants as reply
use Rattle.session_rules.specs.declared.state.CircuitState.TheVariants.{Idle, Evaluated}
use Rattle.session_rules.specs.States.{seen}
use Rattle.session_rows.proofs.Words.{sum_of, too_noisy, any_two, three_circuits, none, one, one_two, one_three, Plays, issued, asked, said, joins, leaves, owes, tells, counts, completes, gives, rests}
use Rattle.session_rows.proofs.Computed.{rules}

-- the key is wanting, there is no such input, a share has two polynomials, no such instance is issued, no
-- circuit is taken or ready, and who is lost is absent
pub refuses : Plays (any_two (sum_of (1 ∷ 2 ∷ []))) (
    joins 1 ∷ joins 2 ∷ joins 3 ∷ said (call.Input 0 0) reply.NoKey ∷
    said (call.Input 0 2) reply.NoInput ∷ said (call.Deliver 1 1 2) (reply.Shape 1 2) ∷
    said (call.Deliver 0 1 1) (reply.Unknown 1) ∷ said (call.Finish 0) reply.NotTaken ∷ rests ∷ leaves 3 ∷
    said (call.Pending 3) reply.Absent ∷ said (call.Lose 3) reply.Already ∷ [])
    (seen 3 (
    issued 1 Pk one_two 1 none Opened 0 ∷ []) ((false ∷ false ∷ []) ∷ []) (Idle ∷ []))
unfolding rules
refuses = (refl, refl)

-- where several replies could be given the first is: a share is a stranger's before it is late, late before
-- it is repeated, repeated before it has a wrong shape; an input is none before the key is wanting, then its
-- owner is absent, and only then is it repeated
pub tries_in_order : Plays (any_two (sum_of (1 ∷ 2 ∷ []))) (
    joins 1 ∷ joins 2 ∷ joins 3 ∷ counts 1 1 1 1 ∷ said (call.Deliver 1 1 5) reply.Repeat ∷
    said (call.Deliver 1 3 5) reply.Stranger ∷ leaves 2 ∷ said (call.Deliver 1 3 1) reply.Stranger ∷
    said (call.Deliver 1 1 1) (reply.Late 2) ∷ said (call.Deliver 1 2 9) (reply.Late 2) ∷
    said (call.Input 0 5) reply.NoInput ∷ said (call.Input 0 1) reply.NoKey ∷ counts 2 1 1 1 ∷
    completes 2 3 1 ∷ said (call.Deliver 2 3 1) reply.Repeat ∷ said (call.Input 0 1) reply.Absent ∷
    joins 2 ∷ gives 0 1 ∷ said (call.Input 0 1) reply.Repeat ∷ leaves 2 ∷
    said (call.Input 0 1) reply.Absent ∷ gives 0 0 ∷ said (call.Pending 2) reply.Absent ∷
    said (call.Brief 0) (reply.Unknown 2) ∷ said (call.Brief 1) (reply.Late 2) ∷ tells 2 Pk one_three ∷
    said (call.Brief 3) (reply.Unknown 2) ∷ [])
    (seen 5 (
    issued 1 Pk one_two 1 one (Void 2) 0 ∷
    issued 2 Pk one_three 2 one_three Complete 0 ∷ []) ((true ∷ true ∷ []) ∷ []) (Idle ∷ []))
unfolding rules
tries_in_order = (refl, refl)

-- what a caller took is finished or given back by that caller alone
pub keeps_callers_apart : Plays (any_two (sum_of (1 ∷ 2 ∷ []))) (
    joins 1 ∷ said (call.Join 1) reply.Already ∷ joins 2 ∷
    asked 1 (call.Deliver 1 1 1) (reply.Counted 1) ∷ asked 2 (call.Deliver 1 2 1) reply.Completed ∷
    asked 1 (call.Input 0 0) reply.Given ∷ asked 2 (call.Input 0 1) reply.Given ∷
    asked 1 call.Take (reply.Job 0) ∷ asked 2 call.Take reply.Nothing ∷
    asked 2 (call.Finish 0) reply.NotTaken ∷ asked 2 (call.GiveBack 0) reply.NotTaken ∷
    asked 1 (call.Finish 1) reply.NotTaken ∷ asked 1 (call.GiveBack 0) reply.Returned ∷
    asked 1 (call.Finish 0) reply.NotTaken ∷ asked 2 call.Take (reply.Job 0) ∷
    asked 1 (call.Finish 0) reply.NotTaken ∷ asked 2 (call.Finish 0) reply.Finished ∷
    asked 2 (call.Finish 0) reply.NotTaken ∷ asked 1 (call.Brief 2) (reply.Brief (Dec 0) one_two) ∷ [])
    (seen 3 (
    issued 1 Pk one_two 1 one_two Complete 0 ∷
    issued 2 (Dec 0) one_two 1 none Opened 0 ∷ []) ((true ∷ true ∷ []) ∷ []) (Evaluated ∷ []))
unfolding rules
keeps_callers_apart = (refl, refl)

-- no call has to do with a refused circuit, or with one that is not there
pub refuses_a_circuit : Plays three_circuits (
    joins 1 ∷ joins 2 ∷ counts 1 1 1 1 ∷ completes 1 2 1 ∷ said (call.Input 0 0) reply.NoInput ∷
    said (call.Input 1 1) reply.NoInput ∷ said (call.Input 3 0) reply.NoInput ∷ rests ∷
    said (call.Finish 0) reply.NotTaken ∷ said (call.Finish 3) reply.NotTaken ∷
    said (call.GiveBack 0) reply.NotTaken ∷ owes 1 (2 ∷ 3 ∷ []) [] ∷ [])
    (seen 3 (
    issued 1 Pk one_two 1 one_two Complete 0 ∷
    issued 2 (Rot 3) one_two 1 none Opened 0 ∷
    issued 3 (Rot 5) one_two 1 none Opened 0 ∷ []) ((false ∷ false ∷ []) ∷ (false ∷ []) ∷ (false ∷ false ∷ []) ∷ []) (too_noisy ∷ Idle ∷ Idle ∷ []))
unfolding rules
refuses_a_circuit = (refl, refl)
