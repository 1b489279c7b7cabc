-- Who can act in a session, and who does so honestly: for a circuit whose one input is party 3's, with the value 7 + 15 X^7.
use Rattle.std.proofs.Common.{◌≡◌, ℕ, ◌<◌, zero, suc, true, false, List, [], ◌∷◌, length, slice_index_or, Option, Some, None, IsSome, refl, sym, ap, ◌∙◌, subst, true≢false, arith}
use Rattle.std.specs.Prelude.{unwrap_or}
use Rattle.std.proofs.lemmas.Bool.{ltb-true}
use Rattle.param_set.specs.declared.params.Params.{Params}
use Rattle.circuit_form.specs.declared.node.Node.TheVariants.{Input, Const, Add}
use Rattle.party_roll.specs.declared.placed.Placed.{Placed}
use Rattle.party_roll.specs.Values.{value_in}
use Rattle.session_rules.specs.declared.fixed.Fixed.{Fixed}
use Rattle.session_rules.specs.States.{plan}
use Rattle.session_rules.specs.Steps.{is_input}
use Rattle.session_spec.specs.Settings.{Setting, rules, value_at}
use Rattle.session_rules.specs.declared.call.Call.TheVariants as call
use Rattle.session_rules.specs.Tasks.{exhausts, own as own_entries, left, at_call, dropped, next_call, after_reply}
use Rattle.session_rules.specs.Courses.{joins as joins_task}
use Rattle.run_laws.specs.Leaving.{Leaves}
use Rattle.session_core.specs.declared.stop.Stop.TheVariants.{Spent, NoMemory}
use Rattle.session_core.specs.Sessions.{IsParty}
use Rattle.lane_workers.specs.Acting.{Owns, CanAct, IsHonestParty, OwnsPlace}
use Rattle.lane_workers.specs.Doing.{Acted, is_made_first, StopsFor, again}
use Rattle.spec_rows.proofs.Settings.{p, seven, framed, degree_is, no_factor}
use Rattle.session_rows.proofs.Words.{linear, any_two, joins}
use Rattle.session_rows.proofs.Computed.{plans}

-- ---- what was called, and where it stopped

abbrev pub alone : Fixed
alone = any_two (linear (Input 3 ∷ Const seven ∷ Add 0 1 ∷ []) (3 ∷ []) [])

-- what is called is behind what was
pub joined_behind : Acted (Leaves 1 (joins_task 1 ∷ joins_task 2 ∷ []) (joins_task 2 ∷ [])) [] (joins 1 ∷ [])
unfolding left at_call dropped next_call after_reply
joined_behind = record { made = joins 1 ∷ []; log = refl; alone = refl; are = record { leaves = refl } }

-- another caller's entry isn't caller 0's
pub not_alone : own_entries 0 (record (joins 1) { caller = 2 } ∷ []) ≡ []
not_alone = refl

-- which calls bring what is made before them
pub brings_share : is_made_first (call.Deliver 1 2 3) ≡ true
brings_share = refl

pub brings_input : is_made_first (call.Input 0 1) ≡ true
brings_input = refl

pub brings_output : is_made_first (call.Finish 0) ≡ true
brings_output = refl

pub brings_nothing : is_made_first call.Take ≡ false
brings_nothing = refl

-- a full log is told as such
pub spent_full : StopsFor Spent 1 (joins 1 ∷ []) (call.Join 2)
spent_full = refl

pub spent_early : StopsFor Spent 2 (joins 1 ∷ []) (call.Join 2) → ⊥
spent_early e = absurd (omega (arith, e))

pub short_full : StopsFor NoMemory 1 (joins 1 ∷ []) (call.Join 2) → ⊥
short_full h = h refl refl

pub short_output : StopsFor NoMemory 1 (joins 1 ∷ []) (call.Finish 0)
short_output = λ first. absurd (true≢false first)

-- a circuit is asked for again where there was one
pub once_more : again true ≡ exhausts ∷ []
once_more = refl

pub no_more : again false ≡ []
no_more = refl

-- ---- who owns an input

pub rules_are : rules framed ≡ alone
unfolding rules plans
rules_are = refl

pub first_is : is_input (rules framed) 0 0 ≡ true
unfolding is_input rules plans
first_is = refl

pub second_is_none : is_input (rules framed) 0 1 ≡ false
unfolding is_input rules plans
second_is_none = refl

pub owner_is : slice_index_or (plan (rules framed) 0).owners 0 0 ≡ 3
unfolding rules plans
owner_is = refl

pub owns : Owns framed 3 0 0
owns = record { there = first_is; owner = owner_is }

pub owns_place : OwnsPlace framed 3 (0, 0)
owns_place = owns

pub owns_anothers : Owns framed 2 0 0 → ⊥
owns_anothers o = absurd (omega (arith, o.owner, owner_is))

pub owns_no_input : Owns framed 3 0 1 → ⊥
owns_no_input o = true≢false (sym o.there ∙ second_is_none)

-- of a circuit that is refused there is no input that counts: its bound of 15 is above the limit of 11
abbrev pub refused : Setting
refused = record { numbers = record { n = 2; q = 97; t = 4; digit_bits = 3; balanced = false; err = 1; flood = 2; parties = 3; threshold = 2 }; public = 9 ∷ []; offers = record { nodes = Input 3 ∷ []; values = None } ∷ [] }

pub refused_is_none : is_input (rules refused) 0 0 ≡ false
unfolding is_input rules plans
refused_is_none = refl

pub owns_of_refused : Owns refused 3 0 0 → ⊥
owns_of_refused o = true≢false (sym o.there ∙ refused_is_none)

-- ---- parties

pub party : IsParty 3 3
party = (omega arith, omega arith)

pub nobody : IsParty 3 0 → ⊥
nobody is = absurd (omega (arith, is.0))

pub too_many : IsParty 3 4 → ⊥
too_many is = absurd (omega (arith, is.1))

-- ---- who can act

only_below : (c k : ℕ) → is_input alone c k ≡ true → (c ≡ 0) × (k ≡ 0)
unfolding is_input
only_below zero k h = let below : k < 1 = ltb-true k 1 h in (refl, omega (arith, below))
only_below (suc c) k h = let below : k < 0 = ltb-true k 0 h in absurd (omega (arith, below))

-- what is so at the one input is so at each
pub at_each : (f : Fixed) → f ≡ alone → (P : ℕ → ℕ → Type 0) → P 0 0 → (c k : ℕ) → is_input f c k ≡ true → P c k
at_each f are P first c k h =
    let only = only_below c k (subst (λ (g : Fixed). is_input g c k ≡ true) are h) in
    subst (λ (x : ℕ). P x k) (sym only.0) (subst (λ (y : ℕ). P 0 y) (sym only.1) first)

abbrev pub placed : ℕ → List ℕ → Placed
placed input value = record { circuit = 0; input = input; value = value }

abbrev pub own : List Placed
own = placed 1 [] ∷ placed 0 seven ∷ []

pub value_is : value_in own 0 0 ≡ Some seven
unfolding value_in
value_is = refl

pub elsewhere_is_none : value_in (placed 1 seven ∷ []) 0 0 ≡ None
unfolding value_in
elsewhere_is_none = refl

abbrev pub HasAt : List Placed → ℕ → ℕ → Type 0
HasAt values c k = IsSome (value_in values c k)

pub can_act : CanAct p framed p 3 own
unfolding value_in
can_act = record { params = refl; values = λ c k there owner. at_each (rules framed) rules_are (HasAt own) refl c k there }

-- one that owns none needs none
pub can_act_without : CanAct p framed p 2 []
can_act_without = record {
  params = refl;
  values = λ c k there owner.
      let at : slice_index_or (plan (rules framed) c).owners k 0 ≡ 3 = at_each (rules framed) rules_are (λ (x y : ℕ). slice_index_or (plan (rules framed) x).owners y 0 ≡ 3) owner_is c k there in
      absurd (omega (arith, at, owner));
}

pub lacks_all : CanAct p framed p 3 [] → ⊥
unfolding value_in
lacks_all a = true≢false (sym (a.values 0 0 first_is owner_is))

-- it has one for another input
pub lacks_one : CanAct p framed p 3 (placed 1 seven ∷ []) → ⊥
unfolding value_in
lacks_one a = true≢false (sym (a.values 0 0 first_is owner_is))

-- the same parameters, but for the noise of a decryption
abbrev pub louder : Params
louder = record {
  n = 8;
  q = 31525197391593473;
  t = 16;
  digit_bits = 8;
  balanced = false;
  err = 1;
  flood = 2;
  parties = 3;
  threshold = 2;
  psi = 1791537114801093;
  degree = (omega arith, omega arith, degree_is);
  modulus = (omega arith, omega arith, refl);
  no_small_factor = no_factor;
  plain_modulus = (omega arith, omega arith);
  noise = (omega arith, omega arith, omega arith, omega arith, omega arith);
  group = (omega arith, omega arith, omega arith);
  root = (omega arith, refl);
}

pub of_other_parameters : CanAct p framed louder 3 own → ⊥
of_other_parameters a = let floods : 2 ≡ 1 = ap (λ (x : Params). x.flood) a.params in absurd (omega (arith, floods))

-- ---- who is honest

abbrev pub seeds : List (List ℕ)
seeds = (1 ∷ []) ∷ (2 ∷ []) ∷ (3 ∷ []) ∷ []

abbrev IsTheirs : List Placed → ℕ → ℕ → Type 0
IsTheirs values c k = value_in values c k ≡ Some (value_at framed c k)

pub honest : IsHonestParty framed seeds true (9 ∷ []) seeds 3 own
unfolding value_in
honest = record { tells = refl; public = refl; same = refl; values = λ c k there owner. at_each (rules framed) rules_are (IsTheirs own) refl c k there }

pub tells_nothing : IsHonestParty framed seeds false (9 ∷ []) seeds 3 own → ⊥
tells_nothing h = true≢false (sym h.tells)

abbrev pub first_of : List ℕ → ℕ
first_of xs = slice_index_or xs 0 0

pub has_another_public_seed : IsHonestParty framed seeds true (8 ∷ []) seeds 3 own → ⊥
has_another_public_seed h = let firsts : 8 ≡ 9 = ap first_of h.public in absurd (omega (arith, firsts))

pub tells_too_few : IsHonestParty framed seeds true (9 ∷ []) ((1 ∷ []) ∷ (2 ∷ []) ∷ []) 3 own → ⊥
tells_too_few h = let lengths : 2 ≡ 3 = ap length h.same in absurd (omega (arith, lengths))

abbrev pub told : Option (List ℕ) → List ℕ
told o = unwrap_or o []

pub has_another_value : IsHonestParty framed seeds true (9 ∷ []) seeds 3 (placed 0 (8 ∷ []) ∷ []) → ⊥
unfolding value_in
has_another_value h = let firsts : 8 ≡ 7 = ap (λ (o : Option (List ℕ)). first_of (told o)) (h.values 0 0 first_is owner_is) in absurd (omega (arith, firsts))

pub has_no_value : IsHonestParty framed seeds true (9 ∷ []) seeds 3 [] → ⊥
unfolding value_in
has_no_value h = let firsts : 0 ≡ 7 = ap (λ (o : Option (List ℕ)). first_of (told o)) (h.values 0 0 first_is owner_is) in absurd (omega (arith, firsts))
