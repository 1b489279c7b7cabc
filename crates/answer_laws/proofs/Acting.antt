-- Parties that act together: what each takes part with, the noise that it adds, and their shares.
use Rattle.std.proofs.Common.{◌≡◌, ℕ, List, [], ◌∷◌, map, length, get_or, refl, sym, ap, subst, ◌∙◌, arith}
use Rattle.std.specs.Prelude.{All}
use Rattle.std.proofs.lemmas.List.{length-map}
use Rattle.std.proofs.lemmas.List.Elements.{All-map}
use Rattle.param_set.specs.declared.params.Params.{Params}
use Rattle.ring_spec.specs.Ring.{ring_sum, ring_product}
use Rattle.ring_spec.specs.Aggregate.{ring_total}
use Rattle.bfv_spec.specs.Scheme.{pk_share}
use Rattle.bfv_spec.specs.Members.{Member, parts, noises, key_shares, decryption_shares}
use Rattle.param_set.specs.Numbers.{numbers_of}
use Rattle.share_spec.specs.Sets.{members, count}
use Rattle.share_spec.specs.Dealing.{parts as parts_by}
use Rattle.share_spec.specs.Seeds.{secret, part as part_dealt, parts as parts_dealt}
use Rattle.share_laws.proofs.Seeds.{parts_sum}
use Rattle.proto_names.specs.Roles.{Role}
use Rattle.session_spec.specs.Settings.{Setting, Offer}
use Rattle.session_spec.specs.Shares.{part_of}

-- ---- settings

-- the setting with these parameters
abbrev pub setting_of : Params → List ℕ → List Offer → Setting
setting_of p public offers = record { numbers = numbers_of p; public = public; offers = offers }

-- ---- some points

-- the parties at some points, by the part and the noise of each point
abbrev pub acting : (ℕ → List ℕ) → (ℕ → List ℕ) → List ℕ → List Member
acting part noise [] = []
acting part noise (j ∷ js) = record { part = part j; noise = noise j } ∷ acting part noise js

pub parts_acting : (part noise : ℕ → List ℕ) (js : List ℕ) → parts (acting part noise js) ≡ map part js
parts_acting part noise [] = refl
parts_acting part noise (j ∷ js) = ap (λ (fs : List (List ℕ)). part j ∷ fs) (parts_acting part noise js)

pub noises_acting : (part noise : ℕ → List ℕ) (js : List ℕ) → noises (acting part noise js) ≡ map noise js
noises_acting part noise [] = refl
noises_acting part noise (j ∷ js) = ap (λ (fs : List (List ℕ)). noise j ∷ fs) (noises_acting part noise js)

pub key_shares_acting : (q n : ℕ) (a : List ℕ) (part noise : ℕ → List ℕ) (js : List ℕ) →
    key_shares q n a (acting part noise js) ≡ map (λ j. pk_share q n a (part j) (noise j)) js
key_shares_acting q n a part noise [] = refl
key_shares_acting q n a part noise (j ∷ js) =
    ap (λ (fs : List (List ℕ)). pk_share q n a (part j) (noise j) ∷ fs) (key_shares_acting q n a part noise js)

pub decryption_shares_acting : (q n : ℕ) (c1 : List ℕ) (part noise : ℕ → List ℕ) (js : List ℕ) →
    decryption_shares q n c1 (acting part noise js) ≡ map (λ j. ring_sum q n (ring_product q n c1 (part j)) (noise j)) js
decryption_shares_acting q n c1 part noise [] = refl
decryption_shares_acting q n c1 part noise (j ∷ js) =
    ap (λ (fs : List (List ℕ)). ring_sum q n (ring_product q n c1 (part j)) (noise j) ∷ fs) (decryption_shares_acting q n c1 part noise js)

-- what holds of the noise of each point holds of all noises
pub noises_all : (P : List ℕ → Type 0) (part noise : ℕ → List ℕ) (js : List ℕ) → ((j : ℕ) → P (noise j)) → All P (noises (acting part noise js))
noises_all P part noise js h =
    subst (All P) (sym (noises_acting part noise js)) (All-map P noise js (λ k d l. h (get_or js k d)))

-- there is one noise for each point
pub noises_count : (part noise : ℕ → List ℕ) (js : List ℕ) → length (noises (acting part noise js)) ≡ length js
noises_count part noise js = ap length (noises_acting part noise js) ∙ length-map js noise

-- ---- the members of a set

-- the parts of as many members as the threshold sum to the secret, whatever their noises
pub acting_sum : (p : Params) (public : List ℕ) (offers : List Offer) (seeds : List (List ℕ)) (role : Role) (noise : ℕ → List ℕ) → count role.set.bits ≡ p.threshold →
    ring_total p.q p.n (parts (acting (part_of (setting_of p public offers) seeds role) noise (members role.set.bits))) ≡ secret p.q p.n seeds
unfolding parts_dealt parts_by part_dealt
acting_sum p public offers seeds role noise many =
    ap (ring_total p.q p.n) (parts_acting (part_of (setting_of p public offers) seeds role) noise (members role.set.bits))
    ∙ parts_sum p.q p.n p.threshold seeds role.set.bits (omega arith) p.no_small_factor (omega arith) (omega arith)
