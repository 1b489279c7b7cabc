use Rattle.std.proofs.Common.{◌∙◌, sym, subst}
use Rattle.session_core.specs.Sessions.{Known}
use Rattle.lane_workers.specs.Acting.{AreParties, AreLanes}
use Rattle.lane_workers.specs.Doing.{StoppedServing}
use Rattle.lane_workers.proofs.Going.{if_err}
use Rattle.lane_workers.proofs.Settled.{joined_followed, followed_settled, joining_stopped, lanes_stopped, settling_stopped}
use Rattle.lane_workers.proofs.joining.serial.Goals as goal

pub serve_all-requires-clause-parties : goal.serve_all-requires-clause-parties
serve_all-requires-clause-parties g c κs within =
    subst (λ (z : Known). AreParties g.P.Party z c.args.parties.now) (sym c.in_ok-join_all.ensures.same) c.requires.parties

pub serve_all-requires-clause-lanes : goal.serve_all-requires-clause-lanes
serve_all-requires-clause-lanes g c κs within =
    subst (λ (z : Known). AreLanes z.params.parties c.args.lanes.now) (sym c.in_ok-join_all.ensures.same) c.requires.lanes

pub settle-requires-clause-parties : goal.settle-requires-clause-parties
settle-requires-clause-parties g c κs within =
    subst (λ (z : Known). AreParties g.P.Party z c.args.parties.now) (sym (c.in_ok-serve_all.ensures.same ∙ c.in_ok-join_all.ensures.same))
    c.requires.parties

pub returns-clause-done : goal.returns-clause-done
returns-clause-done g c =
    let a = c.in_ok-join_all.ensures in
    let b = c.in_ok-serve_all.ensures in
    let old = c.args.session.now in
    let mid = c.serve_all.new.session in
    let present = c.args.present.now in
    let lanes = c.args.lanes.now in
    let acts = joined_followed present lanes old c.join_all.new.session mid a.same a.done b.done in
    followed_settled present lanes old mid c.settle.new.session (b.same ∙ a.same) acts c.in_ok-settle.ensures.done

pub returns-in_err-join_all-clause-stopped : goal.returns-in_err-join_all-clause-stopped
returns-in_err-join_all-clause-stopped g c =
    let old = c.args.session.now in
    let new = c.join_all.new.session in
    let present = c.args.present.now in
    let lanes = c.args.lanes.now in
    if_err c.from_residual.result _ (StoppedServing present lanes old new) c.from_residual.ensures.1 (joining_stopped present lanes _ old new c.in_err-join_all.ensures.stopped)

pub returns-in_err-serve_all-clause-stopped : goal.returns-in_err-serve_all-clause-stopped
returns-in_err-serve_all-clause-stopped g c =
    let a = c.in_ok-join_all.ensures in
    let old = c.args.session.now in
    let mid = c.join_all.new.session in
    let new = c.serve_all.new.session in
    let present = c.args.present.now in
    let lanes = c.args.lanes.now in
    if_err c.from_residual-in_err-serve_all.result _ (StoppedServing present lanes old new) c.from_residual-in_err-serve_all.ensures.1
    (lanes_stopped present lanes _ old mid new a.same a.done c.in_err-serve_all.ensures.stopped)

pub returns-in_err-settle-clause-stopped : goal.returns-in_err-settle-clause-stopped
returns-in_err-settle-clause-stopped g c =
    let a = c.in_ok-join_all.ensures in
    let b = c.in_ok-serve_all.ensures in
    let old = c.args.session.now in
    let mid = c.serve_all.new.session in
    let new = c.settle.new.session in
    let present = c.args.present.now in
    let lanes = c.args.lanes.now in
    let acts = joined_followed present lanes old c.join_all.new.session mid a.same a.done b.done in
    if_err c.from_residual-in_err-settle.result _ (StoppedServing present lanes old new) c.from_residual-in_err-settle.ensures.1
    (settling_stopped present lanes _ old mid new (b.same ∙ a.same) acts c.in_err-settle.ensures.stopped)
