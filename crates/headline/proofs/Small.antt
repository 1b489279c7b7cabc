-- An accepted script asks for little: so its run makes fewer calls than a session may make.
use Rattle.std.proofs.Common.{◌≡◌, sym, ap, subst, refl, ℕ, suc, ◌+◌, ◌<◌, ◌≤◌, List, [], ◌∷◌, length, map, All, arith}
use Rattle.std.proofs.lemmas.List.Elements.{All-weaker}
use Rattle.circuit_form.specs.declared.node.Node.{Node}
use Rattle.session_rules.specs.declared.fixed.Fixed.{Fixed}
use Rattle.session_rules.specs.Fixing.{fixed_of}
use Rattle.run_laws.specs.Lengths.{inputs, lines, most_calls, IsSmall}
use Rattle.run_laws.proofs.Course.{small_ones_are_short}
use Rattle.session_spec.specs.Settings.{nodes_of, rules}
use Rattle.session_script.specs.Asked.{Asked, Named}
use Rattle.session_script.specs.Kept.{IsParty, Rising, ArePresent, IsAccepted}
use Rattle.session_script.proofs.KeptBounds.{nodes_of as nodes_named, turns_few, plans_few, inputs_few, lines_few}
use Rattle.run_report.specs.Reports.{bounding, offered, setting_asked}
use Rattle.headline.specs.Asked.{rules_asked}

-- the nodes of the circuits of the session are those of the script's
nodes_are : (circuits : List Named) → map nodes_of (map offered circuits) ≡ map nodes_named circuits
nodes_are [] = refl
nodes_are (c ∷ circuits) = ap (λ (z : List (List Node)). c.nodes ∷ z) (nodes_are circuits)

rules_are : (a : Asked) → rules_asked a ≡ fixed_of (bounding a) (map nodes_named a.circuits)
unfolding rules setting_asked
rules_are a = ap (λ (z : List (List Node)). fixed_of (bounding a) z) (nodes_are a.circuits)

-- parties that rise are no more than there are
few_rising : (last most : ℕ) (ps : List ℕ) → last ≤ most → Rising last ps → All (λ (p : ℕ). p ≤ most) ps → last + length ps ≤ most
unfolding Rising
few_rising last most [] l rising all = omega arith
few_rising last most (p ∷ ps) l rising all =
    let here : p ≤ most = all 0 0 (omega arith) in
    let rest = few_rising p most ps here rising.1 (λ k d inside. all (suc k) d (omega arith)) in
    let more = rising.0 in
    omega arith

few_present : (a : Asked) → ArePresent a → length a.present ≤ a.numbers.parties
few_present a h =
    let all = All-weaker (IsParty a.numbers) (λ (p : ℕ). p ≤ a.numbers.parties) (λ p b. b.1) a.present h.parties in
    let l = few_rising 0 a.numbers.parties a.present (omega arith) h.rising all in
    omega arith

pub small : (a : Asked) → IsAccepted a → IsSmall (rules_asked a) a.present a.lanes
unfolding inputs lines
small a h =
    let e = sym (rules_are a) in
    let group = h.numbers.group in
    record {
      plans = subst (λ (f : Fixed). length f.plans ≤ 64) e (plans_few a (bounding a) h);
      inputs = subst (λ (f : Fixed). inputs f ≤ 1024) e (inputs_few a (bounding a) h);
      turns = subst (λ (f : Fixed). length f.turns ≤ 16) e (turns_few a (bounding a) h refl);
      lines = lines_few a h;
      parties = let l = few_present a h.present in let m = group.2 in omega (arith, l, m);
    }

pub short : (a : Asked) → IsAccepted a → most_calls (rules_asked a) a.present a.lanes < 8388608
short a h = small_ones_are_short (rules_asked a) a.present a.lanes (small a h)
