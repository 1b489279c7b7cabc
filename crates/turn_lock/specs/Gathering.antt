-- What a seat knows into which passes were joined.
use Rattle.std.specs.Prelude.{◌≡◌, ℕ, ◌+◌, ◌≤◌, Some, List, [], ◌∷◌, length, slice_get}
use mathlib.Core.Option as maybe
use lib.ListN.{get_elem?}
use Rattle.turn_lock.specs.declared.kept.Kept.{Ghosts}
use Rattle.turn_lock.specs.declared.pass.Pass.{Pass}
use Rattle.turn_lock.specs.declared.view.Sight.{Sight}
use Rattle.turn_lock.specs.declared.view.View.{View}
use Rattle.turn_lock.specs.Rule.{total, one_each}

module _ {V F E : Type 0} {K : Ghosts V F E} where
  -- the pass's sight stands among those of the view
  pub record Knows (v : View F E) (p : Pass V F E K) : Type 0 where
    pub sight : Sight F E
    pub alone : p.seat.me.0.sights ≡ sight ∷ []
    pub place : ℕ
    pub there : get_elem? v.sights place ≡ maybe.some sight

  -- those from the k-th on
  pub record GathersFrom (n : ℕ) (ps : List (Pass V F E K)) (v : View F E) : Type 0 where
    pub each : (k : ℕ) (p : Pass V F E K) → n ≤ k → slice_get ps k ≡ Some p → Knows v p
    pub count : total (λ t. one_each t.number) v.sights + n ≡ length ps

  abbrev pub Gathers : List (Pass V F E K) → View F E → Type 0
  Gathers ps v = GathersFrom 0 ps v
