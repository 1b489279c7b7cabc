-- What a standing has once instances are issued behind the others, of which some may be given up.
use Rattle.std.proofs.Common.{◌≡◌, ◌∙◌, sym, ap, ap₂, subst, refl, ℕ, ◌+◌, ◌-◌, ◌<◌, Bool, true, false, cond, inl, inr, List, [], ◌++◌, length, map, get_or, fold, Contains, Option, Some, None, arith}
use Rattle.std.specs.Prelude.{All, nat_eq}
use Rattle.std.specs.List.{slice_get}
use Rattle.std.specs.declared.alloc.Global.{Global}
use Rattle.std.specs.declared.sync.Arc.{Arc}
use Rattle.std.proofs.lemmas.Bool.{cases_lt}
use Rattle.std.proofs.lemmas.List.{map-append, length-append, length-map, get_or_append_left, get_or-append_right, get_or-map}
use Rattle.std.proofs.lemmas.List.Elements.{All-contains, All-get_or, All-nil, All-cons, Contains-append_left, Contains-append_right, Contains-append_cases}
use Rattle.std.proofs.lemmas.Option.{slice_get_within, get_or_from_slice_get, slice_get-get_or}
use Rattle.ring_spec.specs.Ring.{IsPoly}
use Rattle.ring_spec.specs.Pairs.{Cipher}
use Rattle.param_set.specs.declared.params.Params.{Params}
use Rattle.param_set.specs.Moduli.{digit_rows}
use Rattle.proto_names.specs.Names.{rows_of}
use Rattle.proto_names.specs.Instances.{instance}
use Rattle.proto_names.specs.declared.signature.Signature.{Signature}
use Rattle.proto_names.specs.declared.signature.Signature.TheVariants.{Pk, Rlk1, Rlk2, Rot, Dec}
use Rattle.proto_names.specs.declared.instance.Instance.{Instance}
use Rattle.instance_table.specs.Tables.{row_count, row_counts}
use Rattle.instance_table.specs.declared.brief.Brief.{Brief}
use Rattle.session_rules.specs.declared.state.CircuitState.{CircuitState}
use Rattle.session_rules.specs.declared.fixed.Fixed.{Fixed}
use Rattle.session_rules.specs.States.{State, circuit}
use Rattle.session_rules.specs.Issues.{most_moves, instances_after, moves, issue}
use Rattle.session_rules.specs.Facts.{IsLive, HasFirst, Numbered, Kept}
use Rattle.session_rules.proofs.Marks.{complete_lives, numbered_at}
use Rattle.session_rules.proofs.Stepwise.{issue_beside, beside_is}
use Rattle.session_rules.proofs.Weights.{issue_is_its_moves}
use Rattle.session_spec.specs.Settings.{Setting, Offer}
use Rattle.session_spec.specs.Stores.{Store, held_polys, held_sums, held_output, cipher_or, held_key, polys_by, polys_told as polys_for, zero_sums, grown}
use Rattle.session_spec.specs.Honesty.{Matches}
use Rattle.session_state.proofs.LastShares.{evaluated_there}
use Rattle.session_rules.specs.declared.state.CircuitState.TheVariants.{Evaluated}
use Rattle.session_state.specs.Parts.{setting_by, store_by, polys_in, AreTold, HasCipher, Holds}
use Rattle.session_state.specs.Issuings.{move_of, issued, brief_of, sums_of, IsPlanned}
use Rattle.session_state.specs.declared.issuing.Step.{Step}
use Rattle.session_state.proofs.Behind.{IsOpened, AreAged, aged_length, aged_at, aged_now, aged_once, live_same, behind, due_again, zeros_again, told_again, grown_lists}
use Rattle.session_state.proofs.Keys.{SameKeys, key_within, same_held}

-- ---- what holds of a standing with more instances

-- the store with what these are told, and with their sums
abbrev with_more : Setting → List Instance → Store → Store
with_more w more h = record h { told = h.told ++ map (polys_for h) more; sums = h.sums ++ map (zero_sums w) more }

abbrev with_instances : State → List Instance → State
with_instances s is = record s { instances = is }

matches_more : (w : Setting) (s : State) (h : Store) (old more : List Instance) → Matches w s h → AreAged s.instances old → Matches w (with_instances s (old ++ more)) (with_more w more h)
matches_more w s h old more m aged = record {
  told = let e = m.told in omega (arith, length-append h.told (map (polys_for h) more), length-map more (polys_for h), length-append old more, aged_length s.instances old aged);
  sums = let e = m.sums in omega (arith, length-append h.sums (map (zero_sums w) more), length-map more (zero_sums w), length-append old more, aged_length s.instances old aged);
  inputs = m.inputs;
  outputs = m.outputs;
  answers = m.answers;
}

-- what an instance is told that is issued
told_by : (p : Params) (h : Store) (σ : Signature) (first : ℕ) → ((c : ℕ) → σ ≡ Dec c → HasCipher p (held_output h c)) → (σ ≡ Rlk2 → AreTold p Rlk2 (held_sums h first))
    → AreTold p σ (polys_by h σ first)
unfolding polys_by
told_by p h Pk first has sums = record { number = refl; fit = All-nil (IsPoly p.q p.n) }
told_by p h Rlk1 first has sums = record { number = refl; fit = All-nil (IsPoly p.q p.n) }
told_by p h Rlk2 first has sums = sums refl
told_by p h (Rot g) first has sums = record { number = refl; fit = All-nil (IsPoly p.q p.n) }
told_by p h (Dec c) first has sums =
    let fits = (has c refl).fits in
    record { number = refl; fit = All-cons (IsPoly p.q p.n) (cipher_or (held_output h c)).c1 [] fits.c1 (All-nil (IsPoly p.q p.n)) }

instance_shorter : (is more : List Instance) (id : ℕ) (i : Instance) → instance (is ++ more) id ≡ Some i → id - 1 < length is → instance is id ≡ Some i
unfolding instance
instance_shorter is more id i e l = at (nat_eq id 0) e
  where
    at : (b : Bool) → cond b None (slice_get (is ++ more) (id - 1)) ≡ Some i → cond b None (slice_get is (id - 1)) ≡ Some i
    at true e = e
    at false e =
        slice_get-get_or is (id - 1) i l
        ∙ ap (λ (z : Instance). Some z) (sym (get_or_append_left is more i (id - 1) l) ∙ get_or_from_slice_get (is ++ more) (id - 1) i i e)

-- one that isn't void was the same before
instance_before : (is old : List Instance) (id : ℕ) (i : Instance) → AreAged is old → IsLive i → instance old id ≡ Some i → id - 1 < length is → instance is id ≡ Some i
unfolding instance
instance_before is old id i aged live e l = at (nat_eq id 0) e
  where
    at : (b : Bool) → cond b None (slice_get old (id - 1)) ≡ Some i → cond b None (slice_get is (id - 1)) ≡ Some i
    at true e = e
    at false e =
        let now : get_or old (id - 1) i ≡ i = get_or_from_slice_get old (id - 1) i i e in
        let same : i ≡ get_or is (id - 1) i =
        sym now ∙ live_same (get_or is (id - 1) i) (get_or old (id - 1) i) (aged_at is old (id - 1) i aged l) (subst IsLive (sym now) live) in
        slice_get-get_or is (id - 1) i l ∙ ap (λ (z : Instance). Some z) (sym same)

-- the instance with a number stands at its place
pub found_at : (is : List Instance) (id : ℕ) (i : Instance) → instance is id ≡ Some i → slice_get is (id - 1) ≡ Some i
unfolding instance
found_at is id i e = at (nat_eq id 0) e
  where
    at : (b : Bool) → cond b None (slice_get is (id - 1)) ≡ Some i → slice_get is (id - 1) ≡ Some i
    at true e = cc
    at false e = e

-- the sums of instances have their rows, which fit
pub record AreSums (p : Params) (is : List Instance) (sums : List (List (List ℕ))) : Type 0 where
  pub rows : map row_count sums ≡ map (row_counts p) is
  pub fits : All (All (IsPoly p.q p.n)) sums

sums_length : (p : Params) (is : List Instance) (sums : List (List (List ℕ))) → AreSums p is sums → length sums ≡ length is
sums_length p is sums a = sym (length-map sums row_count) ∙ ap length a.rows ∙ length-map is (row_counts p)

-- those of a first round are what a second one is told
first_told : (p : Params) (is : List Instance) (h : Store) (i : Instance) → AreSums p is h.sums → Numbered is → Contains is i → i.signature ≡ Rlk1 → AreTold p Rlk2 (held_sums h i.id)
unfolding rows_of
first_told p is h i a numbered within first =
    let k = within.0 in
    let id : i.id ≡ k + 1 = numbered_at is i numbered within in
    let place : i.id - 1 ≡ k = omega (arith, id) in
    let l : k < length is = within.1 in
    let less : k < length h.sums = omega (arith, sums_length p is h.sums a) in
    let here : get_or is k i ≡ i = within.2 in
    let many : length (get_or h.sums k []) ≡ row_counts p i =
    sym (get_or-map row_count h.sums k [] 0 less) ∙ ap (λ (zs : List ℕ). get_or zs k 0) a.rows ∙ get_or-map (row_counts p) is k i 0 l ∙ ap (row_counts p) here in
    rw place (record {
      number = many ∙ ap (λ (σ : Signature). rows_of σ (digit_rows p.q p.digit_bits)) first;
      fit = All-get_or (All (IsPoly p.q p.n)) h.sums k [] less a.fits;
    })

-- each decryption among the new ones is of a circuit that is evaluated, and each second round behind a first one
pub record AreFounded (is : List Instance) (cs : List CircuitState) (more : List Instance) : Type 0 where
  pub evaluated : (i : Instance) → Contains more i → (c : ℕ) → i.signature ≡ Dec c → circuit cs c ≡ Evaluated
  pub first : (i : Instance) → Contains more i → i.signature ≡ Rlk2 → HasFirst is i

new_told : (p : Params) (s : State) (h : Store) (more : List Instance) (i : Instance) → Holds p s h → AreFounded s.instances s.circuits more → AreSums p s.instances h.sums → Numbered s.instances
    → Contains more i → AreTold p i.signature (polys_for h i)
new_told p s h more i o founded sums numbered m =
    told_by p h i.signature i.round1 (λ c d. let e = founded.evaluated i m c d in o.outputs c (evaluated_there s.circuits c e) (rw e refl))
    (λ second.
    let f = founded.first i m second in
    subst (λ (z : ℕ). AreTold p Rlk2 (held_sums h z)) f.id (first_told p s.instances h f.first sums numbered f.issued f.signature))

told_more : (p : Params) (w : Setting) (s : State) (h : Store) (old more : List Instance) → Matches w s h → Holds p s h → AreAged s.instances old → AreFounded s.instances s.circuits more
    → AreSums p s.instances h.sums → Numbered s.instances
    → (id : ℕ) (i : Instance) → instance (old ++ more) id ≡ Some i → IsLive i → AreTold p i.signature (held_polys (with_more w more h) id)
told_more p w s h old more m o aged founded sums numbered id i e live =
    let got = found_at (old ++ more) id i e in
    let within : id - 1 < length (old ++ more) = slice_get_within (old ++ more) (id - 1) i got in
    let stands : get_or (old ++ more) (id - 1) i ≡ i = get_or_from_slice_get (old ++ more) (id - 1) i i got in
    let n = m.told in
    let same = aged_length s.instances old aged in
    elim (cases_lt (id - 1) (length old)) [
      | inl l ↦
          subst (λ (z : List (List ℕ)). AreTold p i.signature z) (sym (get_or_append_left h.told (map (polys_for h) more) [] (id - 1) (omega arith)))
          (o.told id i (instance_before s.instances old id i aged live (instance_shorter old more id i e l) (omega arith)) live)
      | inr past ↦
          let k : ℕ = id - 1 - length old in
          let below : k < length more = omega (arith, length-append old more) in
          let here : get_or more k i ≡ i = sym (get_or-append_right old more (length old) (id - 1) i refl past) ∙ stands in
          let told : length h.told ≡ length old = n ∙ sym same in
          let polys : get_or (h.told ++ map (polys_for h) more) (id - 1) [] ≡ polys_for h i =
          get_or-append_right h.told (map (polys_for h) more) (length old) (id - 1) [] told past
          ∙ get_or-map (polys_for h) more k i [] below ∙ ap (polys_for h) here in
          subst (λ (z : List (List ℕ)). AreTold p i.signature z) (sym polys) (new_told p s h more i o founded sums numbered (k, below, here))
    ]

holds_more : (p : Params) (w : Setting) (s : State) (h : Store) (old more : List Instance) → Matches w s h → Holds p s h → AreAged s.instances old → AreFounded s.instances s.circuits more
    → AreSums p s.instances h.sums → Numbered s.instances → Holds p (with_instances s (old ++ more)) (with_more w more h)
holds_more p w s h old more m o aged founded sums numbered = record {
  told = told_more p w s h old more m o aged founded sums numbered;
  inputs = o.inputs;
  outputs = o.outputs;
  answers = o.answers;
}

-- the public key: the complete ones are the same
same_keys : (is old more : List Instance) → AreAged is old → All IsOpened more → SameKeys is (old ++ more)
same_keys is old more aged opened = record {
  stays = λ j m d.
      let n = aged_now is old j aged m in
      elim n.aged [
        | inl same ↦ subst (λ (z : Instance). Contains (old ++ more) z) same (Contains-append_left old more n.now n.within)
        | inr was ↦ absurd (let a = was.0.signature in let b = d.signature in cc)
      ];
  was = λ j m d. elim (Contains-append_cases old more j m) [
    | inl there ↦
        let o = aged_once is old j aged there in
        subst (λ (z : Instance). Contains is z) (sym (live_same o.once j o.aged (complete_lives j d.complete))) o.within
    | inr new ↦ absurd (let a = All-contains IsOpened more j opened new in let b = d.complete in cc)
  ];
}

same_sums : (w : Setting) (s : State) (h : Store) (more : List Instance) (i : Instance) → Matches w s h → Numbered s.instances → Contains s.instances i → held_sums (with_more w more h) i.id ≡ held_sums h i.id
same_sums w s h more i m numbered within =
    let id = numbered_at s.instances i numbered within in
    let l = within.1 in
    let n = m.sums in
    get_or_append_left h.sums (map (zero_sums w) more) [] (i.id - 1) (omega arith)

keyed_more : (f : Fixed) (w : Setting) (s : State) (h : Store) (old more : List Instance) → Matches w s h → Numbered s.instances → AreAged s.instances old → All IsOpened more
    → Kept f (with_instances s (old ++ more)) → held_key w (with_more w more h) (old ++ more) ≡ held_key w h s.instances
keyed_more f w s h old more m numbered aged opened kept =
    same_held f w h (with_more w more h) (with_instances s (old ++ more)) s.instances kept (same_keys s.instances old more aged opened)
    (λ j e. same_sums w s h more j m numbered (key_within s.instances j e).within)

-- ---- what is issued by a plan, in a table

pub record IsIssued (p : Params) (f : Fixed) (s : State) (js : List Instance) (h : Store) (briefs now_briefs : List (Arc Brief Global)) (sums now_sums : List (List (List ℕ))) (xs : List Step) : Type 0 where
  pub planned : IsPlanned p f s h xs
  pub instances : js ≡ fold instances_after s.instances (map move_of xs)
  pub briefs_are : now_briefs ≡ briefs ++ map brief_of (issued xs)
  pub sums_are : now_sums ≡ sums ++ map sums_of (issued xs)

-- as the rules say
pub issued_state : (p : Params) (f : Fixed) (s : State) (js : List Instance) (h : Store) (briefs now_briefs : List (Arc Brief Global)) (sums now_sums : List (List (List ℕ))) (xs : List Step)
    → IsIssued p f s js h briefs now_briefs sums now_sums xs → record s { instances = js } ≡ issue f s
issued_state p f s js h briefs now_briefs sums now_sums xs r =
    ap (λ (ks : List Instance). record s { instances = ks }) (r.instances ∙ ap (fold instances_after s.instances) r.planned.moves ∙ sym (issue_is_its_moves f s))
    ∙ sym (beside_is s (issue f s) (issue_beside f s))

founded : (f : Fixed) (s : State) (js old more : List Instance) → js ≡ old ++ more → AreAged s.instances old → All IsOpened more → Kept f (record s { instances = js }) → AreFounded s.instances s.circuits more
founded f s js old more e aged opened k = record {
  evaluated = λ i within c d. (k.decrypts i (there i within)).opened c d (All-contains IsOpened more i opened within);
  first = λ i within second.
      let live : IsLive i = rw (All-contains IsOpened more i opened within) refl in
      let h = k.rounds i (there i within) second live in
      record {
        first = h.first;
        issued = elim (Contains-append_cases old more h.first (subst (λ (ks : List Instance). Contains ks h.first) e h.issued)) [
          | inl m ↦
              let o = aged_once s.instances old h.first aged m in
              subst (λ (z : Instance). Contains s.instances z) (sym (live_same o.once h.first o.aged (complete_lives h.first h.complete))) o.within
          | inr new ↦ absurd (let a = All-contains IsOpened more h.first opened new in let b = h.complete in cc)
        ];
        signature = h.signature;
        complete = h.complete;
        id = h.id;
        set = h.set;
      };
}
  where
    there : (i : Instance) → Contains more i → Contains js i
    there i within = subst (λ (ks : List Instance). Contains ks i) (sym e) (Contains-append_right old more i within)

pub record Grows (p : Params) (w : Setting) (s : State) (js : List Instance) (h later : Store) : Type 0 where
  pub store : later ≡ grown w js h
  pub matches : Matches w (record s { instances = js }) later
  pub holds : Holds p (record s { instances = js }) later
  pub keyed : held_key w later js ≡ held_key w h s.instances

pub grows : (p : Params) (public : List ℕ) (offers : List Offer) (f : Fixed) (s : State) (js : List Instance)
    (inputs : List (List (Option (Arc Cipher Global)))) (outputs : List (Option Cipher)) (answers : List (Option (List ℕ))) (briefs now_briefs : List (Arc Brief Global)) (sums now_sums : List (List (List ℕ))) (xs : List Step)
    → IsIssued p f s js (store_by briefs sums inputs outputs answers) briefs now_briefs sums now_sums xs
    → Matches (setting_by p public offers) s (store_by briefs sums inputs outputs answers)
    → Holds p s (store_by briefs sums inputs outputs answers)
    → AreSums p s.instances sums → Kept f s → Kept f (record s { instances = js })
    → Grows p (setting_by p public offers) s js (store_by briefs sums inputs outputs answers) (store_by now_briefs now_sums inputs outputs answers)
unfolding moves
grows p public offers f s js inputs outputs answers briefs now_briefs sums now_sums xs r m o held before kept =
    let w : Setting = setting_by p public offers in
    let h : Store = store_by briefs sums inputs outputs answers in
    let b = behind (most_moves f) f s xs before r.planned.moves in
    let all : js ≡ b.old ++ b.more = r.instances ∙ b.all in
    let told : map polys_in now_briefs ≡ map polys_in briefs ++ map (polys_for h) b.more =
    ap (map polys_in) r.briefs_are ∙ map-append polys_in briefs (map brief_of (issued xs))
    ∙ ap (λ (zs : List (List (List ℕ))). map polys_in briefs ++ zs)
    (told_again (issued xs) ∙ r.planned.polys ∙ sym (due_again h b.more (issued xs) b.askings)) in
    let zeros : now_sums ≡ sums ++ map (zero_sums w) b.more =
    r.sums_are ∙ ap (λ (zs : List (List (List ℕ))). sums ++ zs) (sym (zeros_again p b.more (issued xs) b.askings r.planned.fresh)) in
    let later : store_by now_briefs now_sums inputs outputs answers ≡ with_more w b.more h =
    ap₂ (λ (x y : List (List (List ℕ))). record h { told = x; sums = y }) told zeros in
    let f_ : AreFounded s.instances s.circuits b.more = founded f s js b.old b.more all b.aged b.opened kept in
    let kept_so : Kept f (with_instances s (b.old ++ b.more)) = subst (λ (ks : List Instance). Kept f (record s { instances = ks })) all kept in
    let many = aged_length s.instances b.old b.aged in
    let grows_ : Grows p w s (b.old ++ b.more) h (with_more w b.more h) = record {
      store = sym (grown_lists w h b.old b.more (m.told ∙ sym many) (m.sums ∙ sym many));
      matches = matches_more w s h b.old b.more m b.aged;
      holds = holds_more p w s h b.old b.more m o b.aged f_ held before.numbered;
      keyed = keyed_more f w s h b.old b.more m before.numbered b.aged b.opened kept_so;
    } in
    subst (λ (ks : List Instance). Grows p w s ks h (store_by now_briefs now_sums inputs outputs answers)) (sym all)
    (subst (λ (z : Store). Grows p w s (b.old ++ b.more) h z) (sym later) grows_)
