-- The first entry of the signature counts one more, or there is none and a new one counts it.
use Rattle.std.proofs.Common.{◌≡◌, ◌+◌, ◌∙◌, ap, sym, arith}
use Rattle.std.specs.Prelude.{Some, None}
use Rattle.std.specs.List.{position}
use Rattle.instance_table.specs.declared.attempts.Attempt.{Attempt}
use Rattle.instance_table.specs.Attempts.{attempts_in, counts}
use Rattle.instance_table.proofs.Attempted.{found_count, found_more, none_count, none_more}
use Rattle.instance_table.proofs.attempts.count_attempt.Goals as goal

pub overflow_add-count : goal.overflow_add-count
overflow_add-count c =
    let entries = c.args.attempts.now.items in let x = c.index.result.now in
    let at : position (counts c.args.signature) entries ≡ Some c.in-Some.place = cc in
    let count : attempts_in entries c.args.signature ≡ x.count = found_count c.args.signature entries c.in-Some.place x at ∙ ap (λ (a : Attempt). a.count) (sym c.index.ensures) in
    omega (arith, c.requires.few)

pub returns-in-Some-clause-value : goal.returns-in-Some-clause-value
returns-in-Some-clause-value c =
    let entries = c.args.attempts.now.items in let x = c.index.result.now in
    let at : position (counts c.args.signature) entries ≡ Some c.in-Some.place = cc in
    let count : attempts_in entries c.args.signature ≡ x.count = found_count c.args.signature entries c.in-Some.place x at ∙ ap (λ (a : Attempt). a.count) (sym c.index.ensures) in
    omega arith

pub returns-in-Some-clause-attempts : goal.returns-in-Some-clause-attempts
returns-in-Some-clause-attempts c σ =
    let entries = c.args.attempts.now.items in let x = c.index.result.now in
    let at : position (counts c.args.signature) entries ≡ Some c.in-Some.place = cc in
    let count : attempts_in entries c.args.signature ≡ x.count = found_count c.args.signature entries c.in-Some.place x at ∙ ap (λ (a : Attempt). a.count) (sym c.index.ensures) in
    found_more c.args.signature σ entries c.in-Some.place (x.count + 1) at (omega arith)

pub returns-in-None-clause-value : goal.returns-in-None-clause-value
returns-in-None-clause-value c =
    let entries = c.args.attempts.now.items in
    let at : position (counts c.args.signature) entries ≡ None = cc in
    let none = none_count c.args.signature entries at in
    omega arith

pub returns-in-None-clause-attempts : goal.returns-in-None-clause-attempts
returns-in-None-clause-attempts c σ =
    let entries = c.args.attempts.now.items in
    let at : position (counts c.args.signature) entries ≡ None = cc in
    rw c.push_reserved.ensures.items (none_more c.args.signature σ entries at)
