-- What went over, where the source tells its bytes and where it doesn't.
use Rattle.std.proofs.Common.{◌≡◌, ℕ, ◌<◌, ◌≤◌, List, [], ◌∷◌, map, length, get_or, Option, Some, None, inl, ◌↔◌, arith, refl}
use Rattle.std.specs.Prelude.{IfSome}
use Rattle.std.specs.Io.KnownBytes.{Appends}
use Rattle.edge_io.specs.Taking.{TakesMoreThan}
use Rattle.helper_main.specs.declared.work.Work.{Work}
use Rattle.helper_main.specs.Owed.{Refuses, Breaks, WritesPart, refused_long, most_bytes}

-- a script that is too long, by what `read_all` says of it
pub refuses-long : (work : Work) (P : Type 0) (left left' old new : Option (List ℕ)) → IfSome left (λ bytes. P ↔ TakesMoreThan bytes left' most_bytes) → P → Appends old new refused_long → Refuses work left left' old new
refuses-long work P None left' old new h p a = tt
refuses-long work P (Some bytes) left' old new h p a = inl (h.0 p, a)

pub breaks-long : (work : Work) (P : Type 0) (left left' old new : Option (List ℕ)) → IfSome left (λ bytes. P ↔ TakesMoreThan bytes left' most_bytes) → P → WritesPart old new refused_long → Breaks work left left' old new
breaks-long work P None left' old new h p a = tt
breaks-long work P (Some bytes) left' old new h p a = inl (h.0 p, a)

-- a list of two, and what a function makes of it
pub map-two : {A : Type 0} (f : A → List ℕ) (xs : List A) (x y : A) → 2 ≤ length xs → length xs < 3 → x ≡ get_or xs 0 x → y ≡ get_or xs 1 y → map f xs ≡ f x ∷ f y ∷ []
map-two f [] x y l h e g = absurd (omega arith)
map-two f (a ∷ []) x y l h e g = absurd (omega arith)
map-two f (a ∷ b ∷ []) x y l h e g = rw (e, g) refl
map-two f (a ∷ b ∷ c ∷ xs) x y l h e g = absurd (omega arith)
