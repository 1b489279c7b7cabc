-- The definitions that a history is computed with.
use Rattle.std.specs.Prelude.{⊤}
use Rattle.participants.specs.Loads as loads
use Rattle.session_rules.specs.States as states
use Rattle.session_rules.specs.Issues as issues
use Rattle.session_rules.specs.Deeds as deeds
use Rattle.session_rules.specs.Steps as steps
use Rattle.session_rules.specs.Histories as histories
use Rattle.session_rules.specs.Tasks as tasks
use Rattle.session_rules.specs.Courses as courses
use Rattle.session_rules.specs.Fixing as fixing
use Rattle.param_set.specs.Moduli as moduli
use Rattle.circuit_form.specs.Circuits as circuits
use Rattle.noise_ledger.specs.Bounds as bounds
use Rattle.noise_ledger.specs.Ledger as ledger
use Rattle.share_spec.specs.Sets as sets
use Rattle.proto_names.specs.Instances as instances
use Rattle.proto_names.specs.Groups as groups
use Rattle.proto_names.specs.Names as names

-- what a proof unfolds to compute a history
unfoldable pub rules : ⊤
unfolding
    states.has_live states.has_done states.opening
    issues.keys issues.enough issues.condition issues.may_issue issues.may_decrypt issues.next_decryption
    issues.next_signature issues.outdated issues.rule_1 issues.chosen_present issues.issued_as issues.rule_2
    issues.next_move issues.instances_after issues.moved issues.moves_in issues.issued_in issues.most_moves issues.moves
    issues.issue
    deeds.falls deeds.after_loss deeds.answered_by deeds.changed deeds.done
    steps.join steps.lose steps.lacks_input steps.owed_of steps.owed_inputs steps.pending steps.told steps.brief
    steps.counted steps.accepted steps.by_stage steps.deliver steps.is_input steps.input steps.has_keys steps.ready
    steps.next_ready steps.take steps.finish steps.give_back steps.judge steps.step
    histories.after histories.replayed
    tasks.dropped tasks.at_call tasks.owing tasks.delivering tasks.evaluating tasks.returning tasks.exhausting
    tasks.next_call tasks.after_reply tasks.left tasks.run
    courses.serial_tasks courses.is_settled courses.round_tasks courses.settling_run courses.serial_run
    sets.has sets.members_to sets.members
    instances.instance instances.lives instances.is_done instances.fresh instances.lacks instances.missing
    instances.with_share instances.after_share instances.after_void instances.after_lost instances.owed_shares
    groups.with_party groups.without_party groups.set_of groups.is_outside groups.first_outside groups.number_outside
    loads.load loads.loads_of loads.earlier loads.first_from loads.chosen_from loads.chosen
    names.same names.rows_of
rules = tt

-- what a proof unfolds to compute what a session has to know of its circuits
unfoldable pub plans : ⊤
unfolding
    fixing.begins_as fixing.plan_of fixing.fixed_from
    moduli.digits_up_to moduli.binary_digits circuits.owners
    bounds.switched bounds.crossed bounds.rounding bounds.input_bound bounds.sum_bound bounds.neg_bound
    bounds.plain_mul_bound bounds.rot_bound bounds.mul_bound bounds.output_bound
    ledger.product_bound ledger.node_bound ledger.bounds_from ledger.node_bounds ledger.place_bound
    ledger.first_above ledger.first_over
plans = tt
