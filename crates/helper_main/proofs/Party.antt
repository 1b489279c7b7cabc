-- A party that has the values of its own inputs can act in the session of a script, and does so honestly.
use Rattle.std.proofs.Common.{◌≡◌, ◌∙◌, sym, ap, ap₂, subst, refl, ℕ, ◌+◌, ◌<◌, ◌≤◌, [], ◌∷◌, ◌++◌, true, nat_lt, inl, inr, List, length, map, get_or, Some, Option, Ok, Err, Result, arith}
use Rattle.std.specs.Prelude.{IsSome, is_some, slice_index_or, unwrap_or, IfOk}
use Rattle.std.specs.declared.alloc.AllocError.{AllocError}
use Rattle.std.specs.List.{slice_get, range_with_len}
use Rattle.std.proofs.lemmas.Bool.{and_parts, ltb-true, cases_lt}
use Rattle.std.proofs.lemmas.List.{get_or-map, get_or_past, length-map, map-append}
use Rattle.std.proofs.lemmas.List.FromFn.{map-range_with_len_more}
use Rattle.std.proofs.lemmas.Option.{slice_get-get_or}
use Rattle.draw_spec.specs.Streams.{party_seed}
use Rattle.param_set.specs.declared.params.Params.{Params}
use Rattle.circuit_form.specs.declared.node.Node.{Node}
use Rattle.circuit_form.specs.Circuits.{owners}
use Rattle.param_set.specs.Numbers.{Numbers}
use Rattle.party_roll.specs.declared.placed.Placed.{Placed}
use Rattle.party_roll.specs.declared.seed_party.SeedParty.{SeedParty}
use Rattle.party_roll.specs.Seeds.{seeds_of}
use Rattle.party_roll.specs.Values.{value_in}
use Rattle.session_rules.specs.declared.fixed.Plan.{Plan}
use Rattle.session_rules.specs.States.{plan, no_plan, is_admitted}
use Rattle.session_rules.specs.Steps.{is_input}
use Rattle.session_rules.specs.Fixing.{plan_of, fixed_from}
use Rattle.session_spec.specs.Settings.{Offer, nodes_of, rules, no_offer, value_at}
use Rattle.session_script.specs.Asked.{Asked}
use Rattle.run_report.specs.Reports.{offered, setting_asked, seeds_asked}
use Rattle.helper_main.specs.Inputs.{no_circuit, circuit_at, OwnsInput, asked_value, HasOwn}
use Rattle.helper_main.specs.Parties.{number_of, IsPartyOf}
use Rattle.helper_main.proofs.Inputs.{own_value}

-- ---- the circuits of a script, as the session has them

plans_are : (a : Asked) → (rules (setting_asked a)).plans ≡ map (plan_of (setting_asked a).numbers) (map nodes_of (map offered a.circuits))
unfolding rules fixed_from setting_asked
plans_are a = refl

offers_are : (a : Asked) → (setting_asked a).offers ≡ map offered a.circuits
unfolding setting_asked
offers_are a = refl

plan_owners : (p : Numbers) (nodes : List Node) → (plan_of p nodes).owners ≡ owners nodes
unfolding plan_of
plan_owners p nodes = refl

offer_at : (a : Asked) (c : ℕ) → c < length a.circuits → get_or (map offered a.circuits) c no_offer ≡ offered (circuit_at a c)
offer_at a c within = get_or-map offered a.circuits c no_circuit no_offer within

owners_at : (a : Asked) (c : ℕ) → c < length a.circuits → (plan (rules (setting_asked a)) c).owners ≡ owners (circuit_at a c).nodes
owners_at a c within =
    let offers = map offered a.circuits in
    let p = (setting_asked a).numbers in
    let offered-within : c < length offers = omega (arith, within, length-map a.circuits offered) in
    let nodes-within : c < length (map nodes_of offers) = omega (arith, offered-within, length-map offers nodes_of) in
    let at : plan (rules (setting_asked a)) c ≡ plan_of p (circuit_at a c).nodes =
    ap (λ (z : List Plan). get_or z c no_plan) (plans_are a) ∙ get_or-map (plan_of p) (map nodes_of offers) c [] no_plan nodes-within
    ∙ ap (plan_of p) (get_or-map nodes_of offers c no_offer [] offered-within ∙ ap nodes_of (offer_at a c within)) in
    ap (λ (z : Plan). z.owners) at ∙ plan_owners p (circuit_at a c).nodes

plans_number : (a : Asked) → length (rules (setting_asked a)).plans ≡ length a.circuits
plans_number a =
    ap length (plans_are a) ∙ length-map (map nodes_of (map offered a.circuits)) (plan_of (setting_asked a).numbers)
    ∙ length-map (map offered a.circuits) nodes_of ∙ length-map a.circuits offered

-- there is no owner past the circuits
none_past : (a : Asked) (c : ℕ) → length a.circuits ≤ c → length (plan (rules (setting_asked a)) c).owners ≡ 0
none_past a c more = ap (λ (z : Plan). length z.owners) (get_or_past (rules (setting_asked a)).plans c no_plan (omega (arith, more, plans_number a)))

value_is : (a : Asked) (c k : ℕ) → c < length a.circuits → value_at (setting_asked a) c k ≡ asked_value a c k
value_is a c k within =
    ap (λ (z : List Offer). slice_index_or (unwrap_or (slice_index_or z c no_offer).values []) k []) (offers_are a)
    ∙ ap (λ (o : Offer). slice_index_or (unwrap_or o.values []) k []) (offer_at a c within)

-- ---- a party's inputs

-- an input of the session with this owner is one of the script
record Owned (a : Asked) (p c k : ℕ) : Type 0 where
  within : c < length a.circuits
  own : OwnsInput a p c k

owned : (a : Asked) (p c k : ℕ) → is_input (rules (setting_asked a)) c k ≡ true → slice_index_or (plan (rules (setting_asked a)) c).owners k 0 ≡ p → Owned a p c k
unfolding is_input
owned a p c k e is =
    let here = plan (rules (setting_asked a)) c in
    let both = and_parts (is_admitted here) (nat_lt k (length here.owners)) e in
    let less : k < length here.owners = ltb-true k (length here.owners) both.1 in
    elim (cases_lt c (length a.circuits)) [
      | inl there ↦ record {
        within = there;
        own = ap (λ (z : List ℕ). slice_get z k) (sym (owners_at a c there)) ∙ slice_get-get_or here.owners k 0 less ∙ ap Some is;
      }
      | inr more ↦ absurd (omega (arith, less, none_past a c more))
    ]

input_value : (a : Asked) (p c k : ℕ) (values : List Placed) → HasOwn a p (length a.circuits) 0 values → is_input (rules (setting_asked a)) c k ≡ true → slice_index_or (plan (rules (setting_asked a)) c).owners k 0 ≡ p
    → value_in values c k ≡ Some (value_at (setting_asked a) c k)
input_value a p c k values h e is =
    let o = owned a p c k e is in
    own_value a p (length a.circuits) 0 c k values (inl o.within) o.own h ∙ ap Some (sym (value_is a c k o.within))

public_is : (a : Asked) → (setting_asked a).public ≡ party_seed a.master 0
unfolding setting_asked
public_is a = refl

some_there : (o : Option (List ℕ)) (x : List ℕ) → o ≡ Some x → IsSome o
some_there o x e = ap is_some e

pub is_party : (a : Asked) (p : Params) (party : SeedParty) → party.params ≡ p → party_seed party.roll.master 0 ≡ party_seed a.master 0
    → seeds_of party.roll.master party.params.parties ≡ seeds_asked a → HasOwn a party.number (length a.circuits) 0 party.values → IsPartyOf p a party
is_party a p party params public seeds h = record {
  able = record {
    params = params;
    values = λ c k e is. some_there (value_in party.values c k) (value_at (setting_asked a) c k) (input_value a party.number c k party.values h e is);
  };
  honest = record {
    tells = refl;
    public = public ∙ sym (public_is a);
    same = seeds;
    values = λ c k e is. input_value a party.number c k party.values h e is;
  };
}

-- what is made with those values is such a party
pub party_made : (a : Asked) (made p : Params) (number : ℕ) (master : List ℕ) (values : List Placed) (result : Result SeedParty AllocError)
    → made ≡ p → p.parties ≡ a.numbers.parties → master ≡ a.master → HasOwn a number (length a.circuits) 0 values
    → IfOk result (λ party. party.params ≡ made) → IfOk result (λ party. party_seed party.roll.master 0 ≡ party_seed master 0)
    → IfOk result (λ party. seeds_of party.roll.master party.params.parties ≡ seeds_of master made.parties) → IfOk result (λ party. party.number ≡ number) → IfOk result (λ party. party.values ≡ values)
    → IfOk result (IsPartyOf p a)
party_made a made p number master values (Ok party) same parties is h params public seeds own_number own_values =
    is_party a p party (params ∙ same) (public ∙ ap (λ (m : List ℕ). party_seed m 0) is)
    (seeds ∙ ap₂ seeds_of is (ap (λ (z : Params). z.parties) same ∙ parties))
    (subst (λ (k : ℕ). HasOwn a k (length a.circuits) 0 party.values) (sym own_number) (subst (HasOwn a number (length a.circuits) 0) (sym own_values) h))
party_made a made p number master values (Err e) same parties is h params public seeds own_number own_values = tt

-- ---- all parties

same_numbers : (xs : List ℕ) → map (λ (x : ℕ). x) xs ≡ xs
same_numbers [] = refl
same_numbers (x ∷ xs) = ap (λ (z : List ℕ). x ∷ z) (same_numbers xs)

range_more : (n : ℕ) → range_with_len 1 (n + 1) ≡ range_with_len 1 n ++ (n + 1) ∷ []
range_more n =
    sym (same_numbers (range_with_len 1 (n + 1))) ∙ map-range_with_len_more (λ (x : ℕ). x) 1 n (n + 1) (omega arith)
    ∙ ap (λ (z : List ℕ). z ++ (n + 1) ∷ []) (same_numbers (range_with_len 1 n))

pub numbered_next : (ps : List SeedParty) (party : SeedParty) (n : ℕ) → map number_of ps ≡ range_with_len 1 n → number_of party ≡ n + 1 → map number_of (ps ++ party ∷ []) ≡ range_with_len 1 (n + 1)
numbered_next ps party n before is =
    map-append number_of ps (party ∷ []) ∙ ap₂ (λ (xs ys : List ℕ). xs ++ ys) before (ap (λ (k : ℕ). k ∷ []) is) ∙ sym (range_more n)
