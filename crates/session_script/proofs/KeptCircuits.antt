-- The statements of circuits keep what is kept: names that differ, and inputs and rotations within their limits.
use Rattle.std.proofs.Common.{◌≡◌, ℕ, ◌+◌, ◌*◌, ◌%◌, ◌<◌, ◌≤◌, Bool, true, false, not, ◌&&◌, ◌||◌, List, [], ◌∷◌, ◌++◌, length, map, Option, Some, None, Ok, IfOk, refl, sym, ap, ◌∙◌, arith, nat_eq, nat_le, nat_lt, ltb-true, drop, is_none, codes, ◌==◌, if◌then◌else◌}
use Rattle.std.specs.List.{list_any, IsDistinct}
use Rattle.std.specs.Str.{bytes_eq}
use Rattle.std.proofs.lemmas.Bool.{eqb-true, eq-eqb}
use Rattle.std.proofs.lemmas.Cmp.{nat_list_eq_equiv}
use Rattle.std.proofs.lemmas.List.{length-append, map-append}
use Rattle.std.proofs.lemmas.List.Elements.{All-append, All-cons, All-nil}
use Rattle.std.proofs.lemmas.List.Folds.{list_any-append}
use Rattle.std.proofs.lemmas.List.Sums.{sum_by_push}
use Rattle.std.proofs.lemmas.Map.Keys.{IsDistinct-push}
use Rattle.ring_spec.specs.Ring.{IsPoly}
use Rattle.circuit_form.specs.declared.node.Node.{Node}
use Rattle.circuit_form.specs.declared.node.Node.TheVariants as node
use Rattle.circuit_form.specs.Circuits.{may_stand, first_wrong, owners, has_rot, is_turn as rotates_by}
use Rattle.circuit_form.proofs.Standing.{is_circuit as circuit_is}
use Rattle.session_script.specs.declared.reason.Reason.TheVariants as reason
use Rattle.session_script.specs.declared.place.Draft.{Draft}
use Rattle.session_script.specs.declared.place.OpenCircuit.{OpenCircuit}
use Rattle.session_script.specs.Lines.{word_at, leads}
use Rattle.session_script.specs.Checks.{◌>>=◌, number_at, numbers_behind, party}
use Rattle.session_script.specs.Asked.{Numbers, Named}
use Rattle.session_script.specs.CircuitLines.{is_name, has_name, circuit_statement, with_node, has_room, is_earlier, plain, input_statement, const_node, operands, neg_node, is_used, may_turn, with_turn, is_turn, rot_statement, other_node, is_circuit, circuit_end, in_circuit}
use Rattle.session_script.specs.Kept.{IsNamed, IsSized, name_of, inputs_of, turns_by, is_turned}
use Rattle.session_script.proofs.Chains.{past_test, past, past_known, either, chosen, both}
use Rattle.session_script.proofs.BegunCircuits.{IsBegun, plain-fits, owners-append, stands_behind, input-begun, IsOther, other-begun, poly-fits}
use Rattle.session_script.proofs.KeptPlaces.{AreUsed, rotates, IsDrafted, IsOpen, HasNoLane, Sound}

-- ---- rotations

either_holds : (a b c : Bool) → (a ≡ true → c ≡ true) → (b ≡ true → c ≡ true) → (a || b) ≡ true → c ≡ true
either_holds true b c p q e = p refl
either_holds false b c p q e = q e

-- what rotates of some nodes and one more rotates of these or is that one
turns-append : (begun : OpenCircuit) (added : Node) (turns : List ℕ) → AreUsed turns (rotates begun) → ((g : ℕ) → rotates_by g added ≡ true → is_used turns g ≡ true) → AreUsed turns (rotates (with_node begun added))
turns-append begun added turns before here g e =
    either_holds (has_rot g begun.nodes) (has_rot g (added ∷ [])) (is_used turns g) (before g)
    (either_holds (rotates_by g added) false (is_used turns g) (here g) (λ no. cc))
    (sym (list_any-append (rotates_by g) begun.nodes (added ∷ [])) ∙ e)

circuits-append : (circuits : List Named) (last : Named) (turns : List ℕ) → AreUsed turns (is_turned circuits) → ((g : ℕ) → has_rot g last.nodes ≡ true → is_used turns g ≡ true) → AreUsed turns (is_turned (circuits ++ last ∷ []))
circuits-append circuits last turns before here g e =
    either_holds (is_turned circuits g) (is_turned (last ∷ []) g) (is_used turns g) (before g)
    (either_holds (turns_by g last) false (is_used turns g) (here g) (λ no. cc))
    (sym (list_any-append (turns_by g) circuits (last ∷ [])) ∙ e)

-- a rotation that is used stays so, and one more is
still_used : (turns : List ℕ) (g h : ℕ) → is_used turns h ≡ true → is_used (with_turn turns g) h ≡ true
still_used turns g h e = at (is_used turns g)
  where
    at : (b : Bool) → is_used (if b then turns else turns ++ g ∷ []) h ≡ true
    at true = e
    at false = list_any-append (λ x. x == h) turns (g ∷ []) ∙ (rw e refl)

now_used : (turns : List ℕ) (g h : ℕ) → nat_eq g h ≡ true → is_used (with_turn turns g) h ≡ true
now_used turns g h e = let same = eqb-true g h e in rw (sym same) (at (is_used turns g) refl)
  where
    at : (b : Bool) → is_used turns g ≡ b → is_used (if b then turns else turns ++ g ∷ []) g ≡ true
    at true u = u
    at false u = list_any-append (λ x. x == g) turns (g ∷ []) ∙ (rw (u, eq-eqb g g refl) refl)

few_with : (turns : List ℕ) (g : ℕ) → length turns ≤ 16 → (is_used turns g || nat_lt (length turns) 16) ≡ true → length (with_turn turns g) ≤ 16
few_with turns g few may = at (is_used turns g) may
  where
    at : (b : Bool) → (b || nat_lt (length turns) 16) ≡ true → length (if b then turns else turns ++ g ∷ []) ≤ 16
    at true e = few
    at false e = omega (arith, ltb-true (length turns) 16 e, length-append turns (g ∷ []))

-- ---- the first line

not_so : (b : Bool) → not b ≡ true → b ≡ false
not_so true e = sym e
not_so false e = refl

pub circuit-sound : (draft : Draft) (words : List (List ℕ)) → IsDrafted draft 0 → HasNoLane draft.lanes draft.lines → IfOk (circuit_statement draft words) Sound
unfolding circuit_statement Sound owners first_wrong
circuit-sound draft words d none =
    past_test Sound (length words == 2) reason.Word _ (λ count.
    past_test Sound (nat_lt (length draft.circuits) 64) reason.Limit _ (λ room.
    past_test Sound (is_name (word_at words 1)) reason.Name _ (λ name.
    past_test Sound (not (list_any (has_name (word_at words 1)) draft.circuits)) reason.Name _ (λ new.
    let begins : IsBegun draft.frame (record { name = word_at words 1; nodes = []; values = [] }) = record {
      name = name;
      count = refl;
      values = All-nil (IsPoly draft.frame.t draft.frame.n);
      few = omega arith;
      stand = refl;
    } in
    (record { drafted = d; begins = begins; room = ltb-true (length draft.circuits) 64 room; new = not_so _ new; used = λ g e. cc }, none)))))

-- ---- nodes

-- a party's number is one that may own an input
party-known : (numbers : Numbers) (p : ℕ) → IfOk (party numbers p) (λ owner. (nat_le 1 owner && nat_le owner numbers.parties) ≡ true)
party-known numbers p = chosen (λ owner. (nat_le 1 owner && nat_le owner numbers.parties) ≡ true) (nat_le 1 p && nat_le p numbers.parties) p reason.Party (λ is. is)

-- one input more is counted
one-input : (draft : Draft) (begun : OpenCircuit) (owner : ℕ) → IsDrafted draft (length (owners begun.nodes)) → draft.inputs < 1024 → IsDrafted (record draft { inputs = draft.inputs + 1 }) (length (owners (begun.nodes ++ node.Input owner ∷ [])))
unfolding owners
one-input draft begun owner d room = record {
  head = d.head;
  parties = d.parties;
  rising = d.rising;
  few = d.few;
  named = d.named;
  sized = d.sized;
  distinct = d.distinct;
  counted = omega (arith, d.counted, ap length (owners-append begun.nodes (node.Input owner)), length-append (owners begun.nodes) (owner ∷ []));
  few_inputs = omega (arith, room);
  few_turns = d.few_turns;
  used = d.used;
}

input-sound : (draft : Draft) (begun : OpenCircuit) (words : List (List ℕ)) → IsOpen draft begun → HasNoLane draft.lanes draft.lines → IfOk (input_statement draft begun words) Sound
unfolding input_statement Sound may_stand
input-sound draft begun words o none =
    past_test Sound (nat_le 3 (length words)) reason.Word _ (λ enough.
    past Sound (number_at words 1) _ (λ p read.
    past Sound (numbers_behind [] (drop 2 words)) _ (λ coeffs spelled.
    past_test Sound (has_room begun && nat_lt draft.inputs 1024) reason.Limit _ (λ room.
    past_known (λ owner. (nat_le 1 owner && nat_le owner draft.frame.parties) ≡ true) Sound (party draft.frame p) _ (party-known draft.frame p) (λ owner is.
    past_known (IsPoly draft.frame.t draft.frame.n) Sound (plain draft.frame coeffs) _ (plain-fits draft.frame coeffs (omega (arith, o.drafted.head.checked.plain_modulus.0))) (λ value fits.
    let tests = both (has_room begun) (nat_lt draft.inputs 1024) room in
    let space = ltb-true (length begun.nodes) 256 tests.0 in (
      record {
        drafted = one-input draft begun owner o.drafted (ltb-true draft.inputs 1024 tests.1);
        begins = input-begun draft.frame begun owner value o.begins space is fits;
        room = o.room;
        new = o.new;
        used = turns-append begun (node.Input owner) draft.turns o.used (λ g no. cc);
      },
      none,
    )))))))

-- a node that is no input leaves the count
no-input : (draft : Draft) (begun : OpenCircuit) (added : Node) → owners (added ∷ []) ≡ [] → IsDrafted draft (length (owners begun.nodes)) → IsDrafted draft (length (owners (begun.nodes ++ added ∷ [])))
no-input draft begun added no_owner d =
    rw (owners-append begun.nodes added, no_owner) record {
      head = d.head;
      parties = d.parties;
      rising = d.rising;
      few = d.few;
      named = d.named;
      sized = d.sized;
      distinct = d.distinct;
      counted = omega (arith, d.counted, length-append (owners begun.nodes) []);
      few_inputs = d.few_inputs;
      few_turns = d.few_turns;
      used = d.used;
    }

-- a rotation more
one-turn : (draft : Draft) (inputs_begun g : ℕ) → IsDrafted draft inputs_begun → may_turn draft g ≡ true → IsDrafted (record draft { turns = with_turn draft.turns g }) inputs_begun
one-turn draft inputs_begun g d may = record {
  head = d.head;
  parties = d.parties;
  rising = d.rising;
  few = d.few;
  named = d.named;
  sized = d.sized;
  distinct = d.distinct;
  counted = d.counted;
  few_inputs = d.few_inputs;
  few_turns = few_with draft.turns g d.few_turns may;
  used = λ h e. still_used draft.turns g h (d.used h e);
}

-- the same tests, bracketed the other way
turn_stands : (odd least most earlier : Bool) → ((odd && least && most) && earlier) ≡ true → (odd && least && most && earlier) ≡ true
turn_stands true true true earlier e = e
turn_stands true true false earlier e = e
turn_stands true false most earlier e = e
turn_stands false least most earlier e = e

rot-sound : (draft : Draft) (begun : OpenCircuit) (words : List (List ℕ)) → IsOpen draft begun → HasNoLane draft.lanes draft.lines → IfOk (rot_statement draft begun words) Sound
unfolding rot_statement Sound owners may_stand
rot-sound draft begun words o none =
    past_test Sound (length words == 3) reason.Word _ (λ count.
    past Sound (number_at words 1) _ (λ g read.
    past Sound (number_at words 2) _ (λ of read_too.
    past_test Sound (has_room begun && may_turn draft g) reason.Limit _ (λ room.
    past_test Sound (is_turn draft.frame g && is_earlier begun of) reason.Node _ (λ turn.
    let tests = both (has_room begun) (may_turn draft g) room in
    let space = ltb-true (length begun.nodes) 256 tests.0 in
    let turns : stands_behind draft.frame begun (node.Rot g of) ≡ true = turn_stands (g % 2 == 1) (nat_le 3 g) (nat_lt g (2 * draft.frame.n)) (is_earlier begun of) turn in (
      record {
        drafted = one-turn draft (length (owners (begun.nodes ++ node.Rot g of ∷ []))) g (no-input draft begun (node.Rot g of) refl o.drafted) tests.1;
        begins = other-begun draft.frame begun (node.Rot g of) o.begins (record { no_owner = refl; room = space; stands = turns });
        room = o.room;
        new = o.new;
        used = turns-append begun (node.Rot g of) (with_turn draft.turns g) (λ h e. still_used draft.turns g h (o.used h e)) (now_used draft.turns g);
      },
      none,
    ))))))

-- a node that is neither an input nor a rotation, and may stand
record IsPlainly (numbers : Numbers) (begun : OpenCircuit) (added : Node) : Type 0 where
  other : IsOther numbers begun added
  no_turn : (g : ℕ) → rotates_by g added ≡ false

-- the operands of a node, which are earlier ones
abbrev Known : OpenCircuit → ℕ × ℕ → Type 0
Known begun ab = (length begun.nodes < 256) × ((is_earlier begun ab.0 && is_earlier begun ab.1) ≡ true)

operands-known : (begun : OpenCircuit) (words : List (List ℕ)) → IfOk (operands begun words) (Known begun)
unfolding operands
operands-known begun words =
    past_test (Known begun) (length words == 3) reason.Word _ (λ count.
    past (Known begun) (number_at words 1) _ (λ left read.
    past (Known begun) (number_at words 2) _ (λ right read_too.
    past_test (Known begun) (has_room begun) reason.Limit _ (λ room.
    past_test (Known begun) (is_earlier begun left && is_earlier begun right) reason.Node _ (λ earlier.
    (ltb-true (length begun.nodes) 256 room, earlier))))))

made-known : (numbers : Numbers) (begun : OpenCircuit) (words : List (List ℕ)) (made : ℕ → ℕ → Node) → ((x y : ℕ) → owners (made x y ∷ []) ≡ []) → ((x y g : ℕ) → rotates_by g (made x y) ≡ false) → ((x y : ℕ) → (is_earlier begun x && is_earlier begun y) ≡ true → stands_behind numbers begun (made x y) ≡ true)
    → IfOk (operands begun words >>= (λ ab. Ok (made ab.0 ab.1))) (IsPlainly numbers begun)
made-known numbers begun words made none no_turn stands =
    past_known (Known begun) (IsPlainly numbers begun) (operands begun words) _ (operands-known begun words) (λ ab known.
    record { other = record { no_owner = none ab.0 ab.1; room = known.0; stands = stands ab.0 ab.1 known.1 }; no_turn = no_turn ab.0 ab.1 })

const-known : (draft : Draft) (begun : OpenCircuit) (words : List (List ℕ)) → 0 < draft.frame.t → IfOk (const_node draft begun words) (IsPlainly draft.frame begun)
unfolding const_node owners may_stand
const-known draft begun words some =
    let Goal = IsPlainly draft.frame begun in
    past_test Goal (nat_le 2 (length words)) reason.Word _ (λ enough.
    past Goal (numbers_behind [] (drop 1 words)) _ (λ coeffs spelled.
    past_test Goal (has_room begun) reason.Limit _ (λ room.
    past_known (IsPoly draft.frame.t draft.frame.n) Goal (plain draft.frame coeffs) _ (plain-fits draft.frame coeffs some) (λ value poly.
    record { other = record { no_owner = refl; room = ltb-true (length begun.nodes) 256 room; stands = poly-fits draft.frame.n draft.frame.t value poly }; no_turn = λ g. refl }))))

neg-known : (numbers : Numbers) (begun : OpenCircuit) (words : List (List ℕ)) → IfOk (neg_node begun words) (IsPlainly numbers begun)
unfolding neg_node owners may_stand
neg-known numbers begun words =
    let Goal = IsPlainly numbers begun in
    past_test Goal (length words == 2) reason.Word _ (λ count.
    past Goal (number_at words 1) _ (λ of read.
    past_test Goal (has_room begun) reason.Limit _ (λ room.
    past_test Goal (is_earlier begun of) reason.Node _ (λ earlier.
    record { other = record { no_owner = refl; room = ltb-true (length begun.nodes) 256 room; stands = earlier }; no_turn = λ g. refl }))))

other-known : (draft : Draft) (begun : OpenCircuit) (words : List (List ℕ)) → 0 < draft.frame.t → IfOk (other_node draft begun words) (IsPlainly draft.frame begun)
unfolding other_node owners may_stand
other-known draft begun words some =
    let Goal = IsPlainly draft.frame begun in
    let made = made-known draft.frame begun words in
    either Goal (leads (codes "const") words) _ _ (const-known draft begun words some)
    (either Goal (leads (codes "neg") words) _ _ (neg-known draft.frame begun words)
    (either Goal (leads (codes "add") words) _ _ (made (λ x y. node.Add x y) (λ x y. refl) (λ x y g. refl) (λ x y e. e))
    (either Goal (leads (codes "sub") words) _ _ (made (λ x y. node.Sub x y) (λ x y. refl) (λ x y g. refl) (λ x y e. e))
    (either Goal (leads (codes "mul") words) _ _ (made (λ x y. node.Mul x y) (λ x y. refl) (λ x y g. refl) (λ x y e. e)) tt))))

other-open : (draft : Draft) (begun : OpenCircuit) (added : Node) → IsOpen draft begun → IsPlainly draft.frame begun added → IsOpen draft (with_node begun added)
other-open draft begun added o plainly = record {
  drafted = no-input draft begun added plainly.other.no_owner o.drafted;
  begins = other-begun draft.frame begun added o.begins plainly.other;
  room = o.room;
  new = o.new;
  used = turns-append begun added draft.turns o.used (λ g e. let no = plainly.no_turn g in cc);
}

-- ---- the last line

-- what is none, is none
is-none : (o : Option ℕ) → is_none o ≡ true → o ≡ None
is-none None e = refl
is-none (Some x) e = cc

-- a name that no circuit has is none of theirs
no_name : (name : List ℕ) (circuits : List Named) → list_any (has_name name) circuits ≡ list_any (bytes_eq name) (map name_of circuits)
no_name name [] = refl
no_name name (one ∷ rest) = rw (nat_list_eq_equiv.symm one.name name, no_name name rest) refl

one-name : (circuits : List Named) (last : Named) → IsDistinct bytes_eq (map name_of circuits) → list_any (has_name last.name) circuits ≡ false → IsDistinct bytes_eq (map name_of (circuits ++ last ∷ []))
one-name circuits last distinct new =
    rw (map-append name_of circuits (last ∷ []))
    (IsDistinct-push nat_list_eq_equiv (map name_of circuits) last.name distinct (sym (no_name last.name circuits) ∙ new))

end-sound : (draft : Draft) (begun : OpenCircuit) (words : List (List ℕ)) → IsOpen draft begun → HasNoLane draft.lanes draft.lines → IfOk (circuit_end draft begun words) Sound
unfolding circuit_end Sound
end-sound draft begun words o none =
    past_test Sound (length words == 1) reason.Word _ (λ count.
    past_test Sound (is_circuit draft.frame begun.nodes) reason.Node _ (λ rules.
    let d = o.drafted in
    let last : Named = record { name = begun.name; nodes = begun.nodes; values = begun.values } in
    let keeps = is-none _ rules in
    let small = circuit_is draft.frame.n draft.frame.t draft.frame.parties begun.nodes keeps in
    let named : IsNamed draft.frame last = record { name = o.begins.name; rules = keeps; count = o.begins.count; values = o.begins.values } in
    let sized : IsSized last = (omega (arith, small.some), small.few) in (
      record {
        head = d.head;
        parties = d.parties;
        rising = d.rising;
        few = omega (arith, o.room, length-append draft.circuits (last ∷ []));
        named = All-append (IsNamed draft.frame) draft.circuits (last ∷ []) d.named (All-cons (IsNamed draft.frame) last [] named (All-nil (IsNamed draft.frame)));
        sized = All-append IsSized draft.circuits (last ∷ []) d.sized (All-cons IsSized last [] sized (All-nil IsSized));
        distinct = one-name draft.circuits last d.distinct o.new;
        counted = omega (arith, d.counted, sum_by_push inputs_of draft.circuits last);
        few_inputs = d.few_inputs;
        few_turns = d.few_turns;
        used = circuits-append draft.circuits last draft.turns d.used o.used;
      },
      none,
    )))

pub in-circuit-sound : (draft : Draft) (begun : OpenCircuit) (words : List (List ℕ)) → IsOpen draft begun → HasNoLane draft.lanes draft.lines → IfOk (in_circuit draft begun words) Sound
unfolding in_circuit Sound
in-circuit-sound draft begun words o none =
    either Sound (leads (codes "end") words) _ _ (end-sound draft begun words o none)
    (either Sound (leads (codes "input") words) _ _ (input-sound draft begun words o none)
    (either Sound (leads (codes "rot") words) _ _ (rot-sound draft begun words o none)
    (past_known (IsPlainly draft.frame begun) Sound (other_node draft begun words) _ (other-known draft begun words (omega (arith, o.drafted.head.checked.plain_modulus.0))) (λ added plainly.
    (other-open draft begun added o plainly, none)))))
