-- The parties are those of the session, and its log is the script's serial history, for which it has room.
use Rattle.std.proofs.Common.{◌∙◌, sym, ap, map, subst, ℕ, List, get_or}
use Rattle.std.specs.List.{range_with_len}
use Rattle.std.proofs.lemmas.List.Elements.{All-same}
use Rattle.param_set.specs.declared.params.Params.{Params}
use Rattle.session_state.specs.Standings.{setting}
use Rattle.session_rules.specs.declared.line.Line.{Line}
use Rattle.session_script.specs.Scripts.{asked}
use Rattle.helper_main.specs.Parties.{number_of, IsPartyOf}
use Rattle.helper_main.proofs.Session.{seeds_are, able, honest}
use Rattle.lane_workers.specs.Acting.{AreLanes}
use Rattle.helper_main.proofs.Fitting.{lanes_fit}
use Rattle.helper_main.proofs.Logged.{log_is, never_full}
use Rattle.helper_main.proofs.report.run.Goals as goal

pub serial-requires-clause-parties : goal.serial-requires-clause-parties
serial-requires-clause-parties c κs =
    let a = asked c.args.script.now in
    let p = c.args.script.now.params in
    let session = c.in_ok-session.session in
    let seeds = seeds_are a session.roll.master session.standing.params.parties c.in_ok-session.ensures.master (ap (λ (z : Params). z.parties) c.in_ok-session.ensures.params) in
    let ps = c.as_slice.result.now in
    let all = All-same (IsPartyOf p a) ps c.in_ok-parties.parties.items c.as_slice.ensures.value c.in_ok-parties.ensures.parties in
    record {
      numbers = ap (map number_of) c.as_slice.ensures.value ∙ c.in_ok-parties.ensures.numbers ∙ ap (λ (z : Params). range_with_len 1 z.parties) (sym c.in_ok-session.ensures.params);
      each = λ k d inside.
          let party = get_or ps k d in
          let h = all k d inside in
          record {
            able = able a p session.standing.params (setting session.standing) party c.in_ok-session.ensures.params c.in_ok-session.ensures.setting h;
            honest = λ _. honest a p (setting session.standing) _ party c.in_ok-session.ensures.setting seeds h;
          };
    }

pub serial-requires-clause-lanes : goal.serial-requires-clause-lanes
serial-requires-clause-lanes c κs =
    let a = asked c.args.script.now in
    subst (λ (lanes : List (List Line)). AreLanes c.in_ok-session.session.standing.params.parties lanes) (sym c.as_slice-3.ensures)
    (subst (λ (n : ℕ). AreLanes n a.lanes) (ap (λ (z : Params). z.parties) (sym c.in_ok-session.ensures.params)) (lanes_fit a.numbers a.lanes c.requires.accepted.lanes))

pub returns-in-Ok-clause-log : goal.returns-in-Ok-clause-log
returns-in-Ok-clause-log c =
    let a = asked c.args.script.now in
    let before = c.in_ok-session.session in
    let now = c.serial.new.session in
    let same = c.serial.ensures.same in
    let most = ap (λ k. k.most) same ∙ c.in_ok-session.ensures.most in
    log_is a (setting before.standing) (setting now.standing) before.log.items now.log.items c.as_slice-2.result.now c.as_slice-3.result.now c.in_ok-session.ensures.setting
    (ap (λ k. k.setting) same ∙ c.in_ok-session.ensures.setting) c.in_ok-session.ensures.log c.as_slice-2.ensures c.as_slice-3.ensures
    now.legal (rw (sym most) now.sound.few) c.in-Ok.ensures.done

pub unreachable-requires : goal.unreachable-requires
unreachable-requires c =
    let a = asked c.args.script.now in
    let before = c.in_ok-session.session in
    let now = c.serial.new.session in
    let same = c.serial.ensures.same in
    never_full a (setting before.standing) (setting now.standing) before.log.items now.log.items c.as_slice-2.result.now c.as_slice-3.result.now before.max_calls _ c.requires.accepted c.in_ok-session.ensures.setting
    (ap (λ k. k.setting) same ∙ c.in_ok-session.ensures.setting) c.in_ok-session.ensures.log c.as_slice-2.ensures c.as_slice-3.ensures c.in_ok-session.ensures.most
    now.legal c.in-Err-Spent.field-0-is c.in-Err-Spent.ensures.stopped

pub returns-in-Ok-clause-setting : goal.returns-in-Ok-clause-setting
returns-in-Ok-clause-setting c = ap (λ k. k.setting) c.serial.ensures.same ∙ c.in_ok-session.ensures.setting

pub returns-in-Ok-clause-seeds : goal.returns-in-Ok-clause-seeds
returns-in-Ok-clause-seeds c =
    let a = asked c.args.script.now in
    let before = c.in_ok-session.session in
    ap (λ k. k.seeds) c.serial.ensures.same ∙ seeds_are a before.roll.master before.standing.params.parties c.in_ok-session.ensures.master (ap (λ (z : Params). z.parties) c.in_ok-session.ensures.params)
