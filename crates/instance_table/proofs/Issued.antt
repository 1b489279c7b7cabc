-- What a table's facts rest on once an instance stands behind the others.
use Rattle.std.proofs.Common.{◌≡◌, ℕ, zero, suc, ◌+◌, ◌<◌, List, [], ◌∷◌, ◌++◌, map, length, length-append, ap, sym, ◌∙◌, refl, arith}
use Rattle.std.specs.Prelude.{All, replicate, true, cond}
use Rattle.std.specs.List.{range_with_len, count_by}
use Rattle.std.proofs.lemmas.Grind.{common_steps}
use Rattle.std.specs.declared.alloc.Global.{Global}
use Rattle.std.specs.declared.sync.Arc.{Arc}
use Rattle.std.proofs.lemmas.List.{map_push, length-replicate}
use Rattle.std.proofs.lemmas.List.Elements.{All-replicate}
use Rattle.ring_spec.specs.Ring.{IsPoly}
use Rattle.param_set.specs.Moduli.{digit_rows}
use Rattle.param_set.specs.declared.params.Params.{Params}
use Rattle.proto_names.specs.Names.{same, rows_of}
use Rattle.proto_names.specs.Instances.{id_of, is_of, fresh}
use Rattle.proto_names.specs.declared.sets.PartySet.{PartySet}
use Rattle.proto_names.specs.declared.signature.Signature.{Signature}
use Rattle.proto_names.specs.declared.instance.Instance.{Instance}
use Rattle.proto_names.specs.Roles.{role_of, last_place}
use Rattle.participants.specs.Live.{is_live}
use Rattle.instance_table.specs.Attempts.{attempts_in}
use Rattle.instance_table.specs.Tables.{role_told, no_sums}
use Rattle.instance_table.specs.declared.attempts.Attempt.{Attempt}
use Rattle.instance_table.specs.declared.brief.Brief.{Brief}

pub length_push : {X : Type 0} (xs : List X) (x : X) → length (xs ++ x ∷ []) ≡ length xs + 1
length_push xs x = length-append xs (x ∷ [])

range_more : (n a : ℕ) → range_with_len a (suc n) ≡ range_with_len a n ++ (a + n) ∷ []
range_more zero a = ap (λ (z : ℕ). z ∷ []) (omega arith)
range_more (suc n) a = ap (λ (zs : List ℕ). a ∷ zs) (range_more n (a + 1) ∙ ap (λ (z : ℕ). range_with_len (a + 1) n ++ z ∷ []) (omega arith))

range_push : (n a : ℕ) → range_with_len a (n + 1) ≡ range_with_len a n ++ (a + n) ∷ []
range_push n a = ap (range_with_len a) (let e : n + 1 ≡ suc n = omega arith in e) ∙ range_more n a

pub ids_push : (is : List Instance) (i : Instance) → i.id ≡ length is + 1 → map id_of is ≡ range_with_len 1 (length is) →
    map id_of (is ++ i ∷ []) ≡ range_with_len 1 (length (is ++ i ∷ []))
ids_push is i at e =
    map_push id_of is i ∙ ap (λ (zs : List ℕ). zs ++ i.id ∷ []) e
    ∙ ap (λ (z : ℕ). range_with_len 1 (length is) ++ z ∷ []) (let f : i.id ≡ 1 + length is = omega arith in f)
    ∙ sym (range_push (length is) 1) ∙ ap (range_with_len 1) (sym (length_push is i))

pub role_fresh : (is : List Instance) (σ : Signature) (b : Arc Brief Global) → b.value.id ≡ length is + 1 → b.value.signature ≡ σ →
    role_told b ≡ role_of (fresh is σ b.value.set b.value.round1 (last_place b.value.groups.value))
unfolding fresh
role_fresh is σ b at of = cc

-- two lists that go by the same values do so with one more
pub maps_push : {X Y Z : Type 0} (f : X → Z) (g : Y → Z) (xs : List X) (ys : List Y) (x : X) (y : Y) → map f xs ≡ map g ys → f x ≡ g y →
    map f (xs ++ x ∷ []) ≡ map g (ys ++ y ∷ [])
maps_push f g xs ys x y e d = rw (map_push f xs x, map_push g ys y, e, d)

-- sums to which no share is added have the signature's rows, and fit
pub no_sums-number : (p : Params) (σ : Signature) → length (no_sums p σ) ≡ rows_of σ (digit_rows p.q p.digit_bits)
unfolding no_sums
no_sums-number p σ = length-replicate _ _

pub no_sums-fits : (p : Params) (σ : Signature) → 0 < p.q → All (IsPoly p.q p.n) (no_sums p σ)
unfolding no_sums
no_sums-fits p σ h =
    All-replicate (IsPoly p.q p.n) _ (replicate p.n 0) (record { entries = length-replicate p.n 0; below = All-replicate (λ x. x < p.q) p.n 0 h })

-- a new instance isn't void, and is one more of its signature
pub fresh_lives : (is : List Instance) (σ : Signature) (set : PartySet) (round1 group : ℕ) → is_live (fresh is σ set round1 group) ≡ true
unfolding fresh
fresh_lives is σ set round1 group = refl

pub attempts_push : (σ τ : Signature) (is : List Instance) (i : Instance) (entries new : List Attempt) → i.signature ≡ σ →
    attempts_in entries τ ≡ count_by (is_of τ) is → attempts_in new τ ≡ attempts_in entries τ + cond (same σ τ) 1 0 →
    attempts_in new τ ≡ count_by (is_of τ) (is ++ i ∷ [])
attempts_push σ τ is i entries new of was more =
    let here : same i.signature τ ≡ same σ τ = ap (λ (ρ : Signature). same ρ τ) of in
    grind (arith, common_steps, was, more, here)
