-- What holds past the checks of a statement.
use Rattle.std.proofs.Common.{◌≡◌, Bool, true, false, ◌&&◌, Result, Ok, Err, IfOk, refl, if◌then◌else◌}
use Rattle.session_script.specs.declared.reason.Reason.{Reason}
use Rattle.session_script.specs.Checks.{◌>>=◌, unless}

-- past a check, its test holds
pub past_test : {B : Type 0} (P : B → Type 0) (test : Bool) (r : Reason) (next : Unit {0} → Result B Reason) → (test ≡ true → IfOk (next tt) P) → IfOk (unless test r >>= next) P
past_test P true r next k = k refl
past_test P false r next k = tt

-- past a step, there is its value
pub past : {A B : Type 0} (P : B → Type 0) (step : Result A Reason) (next : A → Result B Reason) → ((x : A) → step ≡ Ok x → IfOk (next x) P) → IfOk (step >>= next) P
past P (Ok x) next k = k x refl
past P (Err r) next k = tt

-- past a step of whose value this is known
pub past_known : {A B : Type 0} (Q : A → Type 0) (P : B → Type 0) (step : Result A Reason) (next : A → Result B Reason) → IfOk step Q → ((x : A) → Q x → IfOk (next x) P) → IfOk (step >>= next) P
past_known Q P (Ok x) next known k = k x known
past_known Q P (Err r) next known k = tt

-- of both ways of a choice
pub either : {B : Type 0} (P : B → Type 0) (test : Bool) (one other : Result B Reason) → IfOk one P → IfOk other P → IfOk (if test then one else other) P
either P true one other p q = p
either P false one other p q = q

-- both of two tests hold
pub both : (a b : Bool) → (a && b) ≡ true → (a ≡ true) × (b ≡ true)
both true b e = (refl, e)
both false b e = (cc, cc)

-- a choice between a value and a refusal
pub chosen : {A : Type 0} (P : A → Type 0) (test : Bool) (v : A) (r : Reason) → (test ≡ true → P v) → IfOk {T = A} {E = Reason} (if test then Ok v else Err r) P
chosen P true v r k = k refl
chosen P false v r k = tt
