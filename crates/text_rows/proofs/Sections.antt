-- The order of statements: a text with each section, and texts that lack it; and lines of lanes.
use Rattle.std.proofs.Common.{◌∙◌, ℕ, List, [], ◌∷◌, codes, refl, sym, ap, true≢false, get_or, inl, arith}
use Rattle.std.proofs.lemmas.List.Elements.{All-cons, All-nil}
use Rattle.session_rules.specs.declared.line.Line.TheVariants as line
use Rattle.session_script.specs.Lines.{leads}
use Rattle.session_script.specs.Kept.{IsLine}
use Rattle.session_script.specs.Sections.{Statement, node_words, lane_words, is_node, is_lane_line, IsBlock, AreLanesOn, AreCircuitsOn, AreSections}
use Rattle.text_rows.proofs.Scripts.{numbers}

-- ---- sections

-- a statement of one word
abbrev word : List ℕ → Statement
word text = text ∷ []

lanes : List Statement
lanes = word (codes "lane") ∷ word (codes "give") ∷ word (codes "end") ∷ []

circuit : List Statement
circuit = word (codes "circuit") ∷ word (codes "neg") ∷ word (codes "end") ∷ []

abbrev behind_lanes : List Statement
behind_lanes = word (codes "workers") ∷ word (codes "done") ∷ []

abbrev behind_circuits : List Statement
behind_circuits = word (codes "lane") ∷ word (codes "give") ∷ word (codes "end") ∷ behind_lanes

abbrev behind_head : List Statement
behind_head = word (codes "circuit") ∷ word (codes "neg") ∷ word (codes "end") ∷ behind_circuits

-- each section once
lanes_on : AreLanesOn behind_circuits
unfolding lanes lane_words
lanes_on = record {
  blocks = lanes ∷ [];
  rest = behind_lanes;
  whole = refl;
  each = All-cons (IsBlock (codes "lane") is_lane_line) lanes [] (record { first = word (codes "lane"); rest = word (codes "give") ∷ word (codes "end") ∷ []; whole = refl; begins = refl; behind = record { inside = word (codes "give") ∷ []; last = word (codes "end"); rest = []; whole = refl; each = refl; ends = refl; behind = refl } }) (All-nil (IsBlock (codes "lane") is_lane_line));
  behind = inl (record { first = word (codes "workers"); rest = word (codes "done") ∷ []; whole = refl; begins = refl; behind = record { first = word (codes "done"); rest = []; whole = refl; begins = refl; behind = refl } });
}

circuits_on : AreCircuitsOn behind_head
unfolding circuit node_words
circuits_on = record {
  blocks = circuit ∷ [];
  rest = behind_circuits;
  whole = refl;
  each = All-cons (IsBlock (codes "circuit") is_node) circuit [] (record { first = word (codes "circuit"); rest = word (codes "neg") ∷ word (codes "end") ∷ []; whole = refl; begins = refl; behind = record { inside = word (codes "neg") ∷ []; last = word (codes "end"); rest = []; whole = refl; each = refl; ends = refl; behind = refl } }) (All-nil (IsBlock (codes "circuit") is_node));
  behind = lanes_on;
}

pub each_once : AreSections (word (codes "helium") ∷ word (codes "params") ∷ word (codes "seed") ∷ word (codes "present") ∷ behind_head)
each_once = record {
  first = word (codes "helium");
  rest = word (codes "params") ∷ word (codes "seed") ∷ word (codes "present") ∷ behind_head;
  whole = refl;
  begins = refl;
  behind = record {
    first = word (codes "params");
    rest = word (codes "seed") ∷ word (codes "present") ∷ behind_head;
    whole = refl;
    begins = refl;
    behind = record {
      first = word (codes "seed");
      rest = word (codes "present") ∷ behind_head;
      whole = refl;
      begins = refl;
      behind = record { first = word (codes "present"); rest = behind_head; whole = refl; begins = refl; behind = circuits_on };
    };
  };
}

-- the parameters first
pub no_version : AreSections (word (codes "params") ∷ behind_head) → ⊥
no_version s = true≢false (sym (ap (λ (z : List Statement). leads (codes "helium") (get_or z 0 [])) s.whole ∙ s.begins))

-- ---- lines of lanes, of three parties

pub of_a_party : IsLine numbers (line.Hold 3 1)
unfolding IsLine
of_a_party = ((omega arith, omega arith), omega arith, omega arith)

pub of_a_stranger : IsLine numbers (line.Join 4) → ⊥
unfolding IsLine
of_a_stranger h = let l = h.1 in absurd (omega arith)

pub of_no_instance : IsLine numbers (line.Hold 1 0) → ⊥
unfolding IsLine
of_no_instance h = let l = h.1 in absurd (omega arith)

pub of_too_late_an_instance : IsLine numbers (line.Hold 1 4294967296) → ⊥
unfolding IsLine
of_too_late_an_instance h = let l = h.2 in absurd (omega arith)
