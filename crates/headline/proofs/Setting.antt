-- The setting of an accepted script, and its rules.
use Rattle.std.proofs.Common.{◌≡◌, ◌∙◌, ap, refl, ℕ, ◌<◌, true, List, [], length, map, get_or, arith}
use Rattle.std.proofs.lemmas.List.{length-map, get_or-map}
use Rattle.std.proofs.lemmas.List.Elements.{All-map}
use Rattle.std.proofs.lemmas.List.Sums.{AllPass-from_list_all}
use Rattle.param_set.specs.declared.params.Params.{Params}
use Rattle.draw_spec.specs.Streams.{party_seed}
use Rattle.party_roll.specs.Seeds.{seeds_of}
use Rattle.party_roll.proofs.Told.{seeds_told_number}
use Rattle.session_rules.specs.declared.fixed.Plan.{Plan}
use Rattle.session_rules.specs.States.{plan, no_plan}
use Rattle.session_rules.specs.Fixing.{plan_of}
use Rattle.session_rules.specs.Grounds.{IsWhole}
use Rattle.session_rules.proofs.Whole.{circuits_are_whole}
use Rattle.session_spec.specs.Settings.{Keeps, Tells, nodes_of, no_offer, rules, IsSetting, HasValues, IsSwitchFree, NeedsNoSwitch}
use Rattle.session_laws.proofs.Plans.{rules_plans, rules_number, rules_threshold}
use Rattle.session_script.specs.Asked.{Asked, Named, Numbers, numbers_of}
use Rattle.session_script.specs.Kept.{IsNamed, AreChecked, IsAccepted}
use Rattle.run_report.specs.Reports.{bounding, offered, setting_asked, seeds_asked}
use Rattle.headline.specs.Asked.{rules_asked, nodes_asked}
use Rattle.headline.specs.History.{is_free, are_free}

-- ---- the checked parameters with a script's numbers

abbrev pub params_of : (numbers : Numbers) → AreChecked numbers → Params
params_of numbers h = record {
  n = numbers.n;
  q = numbers.q;
  t = numbers.t;
  digit_bits = numbers.digit_bits;
  balanced = numbers.balanced;
  err = numbers.err;
  flood = numbers.flood;
  parties = numbers.parties;
  threshold = numbers.threshold;
  psi = numbers.psi;
  degree = h.degree;
  modulus = h.modulus;
  no_small_factor = h.no_small_factor;
  plain_modulus = h.plain_modulus;
  noise = (h.digits.0, h.digits.1, h.noise.0, h.noise.1, h.noise.2);
  group = h.group;
  root = h.root;
}

pub params_are : (numbers : Numbers) (h : AreChecked numbers) → numbers_of (params_of numbers h) ≡ numbers
params_are numbers h = refl

-- ---- the setting

named_keeps : (p : Params) (one : Named) → IsNamed (numbers_of p) one → Keeps p (offered one)
named_keeps p one named = record { rules = named.rules }

named_tells : (p : Params) (one : Named) → IsNamed (numbers_of p) one → Tells p (offered one)
named_tells p one named = record { values = one.values; told = refl; number = named.count; plain = named.values }

pub setting_is : (a : Asked) (h : IsAccepted a) → IsSetting (params_of a.numbers h.numbers) (setting_asked a)
unfolding setting_asked
setting_is a h =
    let p = params_of a.numbers h.numbers in
    record {
      numbers = refl;
      circuits = All-map (Keeps p) offered a.circuits (λ k d inside. named_keeps p (get_or a.circuits k d) (h.named k d inside));
    }

-- circuits that rotate by nothing and multiply no two encrypted values
pub needs_no_switch : (a : Asked) → are_free a.circuits ≡ true → NeedsNoSwitch (setting_asked a)
unfolding setting_asked
needs_no_switch a free = All-map IsSwitchFree offered a.circuits (λ k d inside. AllPass-from_list_all is_free a.circuits free k d inside)

pub has_values : (a : Asked) (h : IsAccepted a) → HasValues (params_of a.numbers h.numbers) (setting_asked a)
unfolding setting_asked
has_values a h =
    let p = params_of a.numbers h.numbers in
    All-map (Tells p) offered a.circuits (λ k d inside. named_tells p (get_or a.circuits k d) (h.named k d inside))

pub seeds_number : (a : Asked) → length (seeds_asked a) ≡ a.numbers.parties
unfolding seeds_of
seeds_number a = seeds_told_number (party_seed a.master) a.numbers.parties

-- ---- the rules

pub whole : (a : Asked) → IsWhole (rules_asked a)
unfolding rules setting_asked
whole a = circuits_are_whole (bounding a) (map nodes_of (map offered a.circuits))

offers_number : (a : Asked) → length (setting_asked a).offers ≡ length a.circuits
unfolding setting_asked
offers_number a = length-map a.circuits offered

pub plans_number : (a : Asked) → length (rules_asked a).plans ≡ length a.circuits
plans_number a = rules_number (setting_asked a) ∙ offers_number a

pub within_offers : (a : Asked) (c : ℕ) → c < length a.circuits → c < length (setting_asked a).offers
within_offers a c l = let n = offers_number a in omega (arith, n)

pub plan_is : (a : Asked) (c : ℕ) → c < length a.circuits → plan (rules_asked a) c ≡ plan_of (bounding a) (nodes_asked a c)
unfolding setting_asked
plan_is a c l =
    let w = setting_asked a in
    let n = offers_number a in
    let less : c < length w.offers = omega (arith, n) in
    let nodes = map nodes_of w.offers in
    let within : c < length nodes = omega (arith, length-map w.offers nodes_of) in
    ap (λ (z : List Plan). get_or z c no_plan) (rules_plans w) ∙ get_or-map (plan_of w.numbers) nodes c [] no_plan within
    ∙ ap (plan_of w.numbers) (get_or-map nodes_of w.offers c no_offer [] less)

pub threshold_is : (a : Asked) → (rules_asked a).threshold ≡ a.numbers.threshold
unfolding setting_asked
threshold_is a = rules_threshold (setting_asked a)
