-- What decryption gives is a plaintext.
use Rattle.std.proofs.Common.{◌≡◌, ℕ, ◌+◌, ◌*◌, ◌/◌, ◌<◌, List, ◌∙◌}
use Rattle.std.proofs.lemmas.List.{length-map}
use Rattle.std.proofs.lemmas.List.Elements.{All-map, All-weaker}
use Rattle.std.proofs.lemmas.Nat.{mod_below}
use Rattle.ring_spec.specs.Ring.{IsPoly}
use Rattle.bfv_spec.specs.Scheme.{decryption, rounded}

-- an opened plaintext has a coefficient below t for each of the phase's
pub opened_fits : (q n t : ℕ) (phase opened : List ℕ) → 0 < t → IsPoly q n phase → opened ≡ decryption q t phase → IsPoly t n opened
unfolding decryption
opened_fits q n t phase opened h p e = rw e (record {
  entries = length-map phase (rounded q t) ∙ p.entries;
  below = All-map (λ x. x < t) (rounded q t) phase (All-weaker (λ x. x < q) (λ x. rounded q t x < t) (λ x _. mod_below ((2 * t * x + q) / (2 * q)) t h) phase p.below);
})
