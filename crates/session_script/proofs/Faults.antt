-- What the relations on faults say, each of answers that keep it and of one that doesn't.
use Rattle.std.proofs.Common.{◌≡◌, ℕ, Bool, true, false, Result, Ok, Err, refl, sym, ap, true≢false, arith}
use Rattle.session_script.specs.declared.reason.Reason.{Reason}
use Rattle.session_script.specs.declared.reason.Reason.TheVariants as reason
use Rattle.session_script.specs.declared.reason.Fault.TheVariants as fault
use Rattle.session_script.specs.declared.reason.ScriptStop.{ScriptStop}
use Rattle.session_script.specs.declared.reason.ScriptStop.TheVariants as stop
use Rattle.session_script.specs.Checks.{IsFaultOf, Follows, Leaves}
use Rattle.session_script.specs.Scripts.{IsFaultAt}

-- whether an answer is the reason Word
abbrev is_word : Result ℕ Reason → Bool
is_word (Err reason.Word) = true
is_word other = false

-- the line of a stop
abbrev line_of : ScriptStop → ℕ
line_of (stop.Refused line r) = line
line_of stop.NoMemory = 0

-- ---- faults

reason_said : IsFaultOf {A = ℕ} (Err reason.Word) (fault.Refused reason.Word)
reason_said = refl

no_memory : IsFaultOf {A = ℕ} (Ok 7) fault.NoMemory
no_memory = tt

another_reason : IsFaultOf {A = ℕ} (Err reason.Byte) (fault.Refused reason.Word) → ⊥
another_reason h = true≢false (sym (ap is_word h))

nothing_wrong : IsFaultOf {A = ℕ} (Ok 7) (fault.Refused reason.Word) → ⊥
nothing_wrong h = true≢false (sym (ap is_word h))

-- ---- answers

answer_said : Follows {A = ℕ} (Ok 7) (Ok 7)
answer_said = refl

refusal_said : Follows {A = ℕ} (Err reason.Word) (Err (fault.Refused reason.Word))
refusal_said = refl

hidden : Follows {A = ℕ} (Err reason.Word) (Ok 7) → ⊥
hidden h = true≢false (ap is_word h)

left : Leaves {A = ℕ} (Ok 7) 7 (Ok tt)
left = refl

left_though_wrong : Leaves {A = ℕ} (Err reason.Word) 7 (Ok tt) → ⊥
left_though_wrong h = true≢false (ap is_word h)

told : Leaves {A = ℕ} (Err reason.Word) 7 (Err (fault.Refused reason.Word))
told = refl

-- ---- lines

at_three : IsFaultAt 3 (fault.Refused reason.Word) (stop.Refused 3 reason.Word)
at_three = refl

at_four : IsFaultAt 3 (fault.Refused reason.Word) (stop.Refused 4 reason.Word) → ⊥
at_four h = let at : 4 ≡ 3 = ap line_of h in absurd (omega (arith, at))

memory_at_three : IsFaultAt 3 fault.NoMemory stop.NoMemory
memory_at_three = refl
