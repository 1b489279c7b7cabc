-- What is handed out where the polynomials are honest, and that it fits.
use Rattle.std.proofs.Common.{◌≡◌, ◌∙◌, sym, ap, subst, refl, ℕ, Bool, true, false, not, inl, inr, List, [], length, map, get_or, Contains, Option, Some, None, arith, ◌+◌, ◌-◌, ◌*◌, ◌<◌}
use Rattle.std.specs.Prelude.{IfSome, IsSome, IsTrue}
use Rattle.std.specs.declared.alloc.Global.{Global}
use Rattle.std.specs.declared.sync.Arc.{Arc}
use Rattle.std.specs.Option.{option_map}
use Rattle.std.proofs.lemmas.Bool.{not-true}
use Rattle.std.proofs.lemmas.List.Elements.{All-get_or}
use Rattle.ring_spec.specs.Pairs.{Key, KeyFits}
use Rattle.param_set.specs.declared.params.Params.{Params}
use Rattle.proto_names.specs.Names.{is_void, rows_of, polys_of_brief}
use Rattle.proto_names.specs.Instances.{instance}
use Rattle.proto_names.specs.Roles.{role_of}
use Rattle.proto_names.specs.declared.signature.Signature.{Signature}
use Rattle.proto_names.specs.declared.signature.Signature.TheVariants.{Pk, Dec}
use Rattle.proto_names.specs.declared.instance.Instance.{Instance}
use Rattle.proto_names.specs.declared.instance.Stage.{Stage}
use Rattle.proto_names.specs.declared.instance.Stage.TheVariants.{Opened, Complete, Void}
use Rattle.cipher_spec.specs.Ciphers.{is_switch_free}
use Rattle.circuit_runner.specs.declared.job.Job.{Job}
use Rattle.instance_table.specs.Tables.{stands as is_standing, role_told, row_count, row_counts}
use Rattle.instance_table.specs.declared.brief.Brief.{Brief}
use Rattle.party_roll.specs.Briefs.{is_made, IsBrief}
use Rattle.session_rules.specs.declared.call.Entry.{Entry}
use Rattle.session_rules.specs.declared.reply.Reply.{Reply}
use Rattle.session_rules.specs.declared.reply.Reply.TheVariants as reply
use Rattle.session_rules.specs.declared.fixed.Fixed.{Fixed}
use Rattle.session_rules.specs.declared.deed.Deed.TheVariants.{Turns}
use Rattle.session_rules.specs.declared.deed.Verdict.{Verdict}
use Rattle.session_rules.specs.declared.state.CircuitState.TheVariants.{Taken}
use Rattle.session_rules.specs.States.{State}
use Rattle.session_rules.specs.Steps as steps
use Rattle.session_rules.specs.Facts.{IsLive}
use Rattle.session_rules.specs.Histories.{state_after}
use Rattle.session_rules.proofs.Readiness.{found_ready}
use Rattle.session_rules.proofs.Marks.{instance_id, instance_within, numbered_at}
use Rattle.session_spec.specs.Settings.{Setting, nodes_at, no_offer, rules, IsSwitchFree, NeedsNoSwitch}
use Rattle.session_spec.specs.Outputs.{key_instance, key_in, keys_in, inputs_of, polys_of, sums_of}
use Rattle.session_spec.specs.Stores.{Store, cipher_or, held_polys, held_sums, held_key, key_by}
use Rattle.session_laws.specs.Laws.{Stands}
use Rattle.session_laws.proofs.Plans.{rules_number}
use Rattle.session_laws.proofs.Inputs.{ready_ones_have_inputs}
use Rattle.session_laws.proofs.HeldKeys.{held_keys_are_keys}
use Rattle.session_state.specs.declared.standing.Standing.{Standing}
use Rattle.session_state.specs.Shared.{shared_if}
use Rattle.session_state.specs.Handed.{IsBriefOf, IsJobFor, brief_reply}
use Rattle.session_state.specs.Standings.{rules_of, state, store, setting}
use Rattle.session_core.proofs.Grown.{grounded, kept}
use Rattle.session_core.proofs.Keyless.{only_pk}
use Rattle.std.proofs.lemmas.List.{get_or-map, length-map}
use Rattle.ring_spec.specs.Ring.{IsPoly}
use Rattle.draw_spec.specs.Streams.{instance_stream}
use Rattle.bfv_spec.specs.Shares.{pk_from}
use Rattle.bfv_laws.proofs.Draws.{uniform_poly_is}
use Rattle.param_set.specs.Moduli.{digit_rows}
use Rattle.instance_table.specs.declared.table.Table.{Table}
use Rattle.session_laws.proofs.Keys.{found_is}

-- ---- the public key

pub record HasMade (w : Setting) (h : Store) (is : List Instance) (key : Key) : Type 0 where
  pub instance : Instance
  pub found : key_instance is ≡ Some instance
  pub made : key ≡ key_by w h instance

made_if : (w : Setting) (h : Store) (is : List Instance) (key : Key) (o : Option Instance) → key_instance is ≡ o → Some key ≡ option_map (key_by w h) o → HasMade w h is key
made_if w h is key None e made = cc
made_if w h is key (Some i) e made = record { instance = i; found = e; made = cc }

pub has_made : (w : Setting) (h : Store) (is : List Instance) (key : Key) → Some key ≡ held_key w h is → HasMade w h is key
unfolding held_key
has_made w h is key made = made_if w h is key (key_instance is) refl made

pub key_honest : (p : Params) (w : Setting) (seeds : List (List ℕ)) (s : State) (h : Store) (key : Key) → Stands p w seeds s h → Some key ≡ held_key w h s.instances → key ≡ key_in w seeds s.instances
key_honest p w seeds s h key y made = let m = has_made w h s.instances key made in m.made ∙ held_keys_are_keys p w seeds s h m.instance y m.found

-- ---- briefs

pub record HasBrief (s : State) (id : ℕ) : Type 0 where
  pub instance_ : Instance
  pub found : instance s.instances id ≡ Some instance_
  pub lives : IsLive instance_

told_live : (i : Instance) (b : Brief) (stage : Stage) → i.stage ≡ stage → steps.told i stage ≡ brief_reply b → IsLive i
unfolding steps.told
told_live i b (Void by) e told = cc
told_live i b Opened e told = rw e refl
told_live i b Complete e told = rw e refl

brief_if : (s : State) (id : ℕ) (b : Brief) (o : Option Instance) → instance s.instances id ≡ o → (elim o as (λ x. Reply) [
  | None ↦ reply.Unknown (length s.instances)
  | Some i ↦ steps.told i i.stage
]) ≡ brief_reply b → HasBrief s id
brief_if s id b None e told = cc
brief_if s id b (Some i) e told = record { instance_ = i; found = e; lives = told_live i b i.stage refl told }

pub has_brief : (s : State) (id : ℕ) (b : Brief) → steps.brief s id ≡ brief_reply b → HasBrief s id
unfolding steps.brief
has_brief s id b told = brief_if s id b (instance s.instances id) refl told

brief_made : (p : Params) (h : Store) (i : Instance) (b : Brief) (σ : Signature) → IsBriefOf p h i b → i.signature ≡ σ → is_made σ ≡ true → IsBrief p b
brief_made p h i b σ x e made = record {
  made = rw (x.signature, e) made;
  number = x.told.number ∙ ap (λ (z : Signature). polys_of_brief z (digit_rows p.q p.digit_bits)) (sym x.signature);
  fit = x.told.fit;
}

pub brief_fits : (st : Standing) (es : List Entry) (i : Instance) (h : Store) (b : Brief) → NeedsNoSwitch (setting st) → state st ≡ state_after (rules_of st) es → Contains (state st).instances i
    → IsBriefOf st.params h i b → IsBrief st.params b
brief_fits st es i h b free e m x = elim ((grounded st es e).asked i m) [
  | inl wanted ↦ brief_made st.params h i b Pk x (only_pk st.params st.public st.circuits i.signature free wanted) refl
  | inr decrypts ↦ brief_made st.params h i b (Dec decrypts.0) x decrypts.1 refl
]

-- the brief of an instance tells its role
role_is : (p : Params) (h : Store) (i : Instance) (b : Arc Brief Global) → IsBriefOf p h i b.value → role_told b ≡ role_of i
role_is p h i b x = rw (x.id, x.signature, x.set, x.round1, x.group) refl

pub brief_honest : (p : Params) (w : Setting) (seeds : List (List ℕ)) (s : State) (h : Store) (id : ℕ) (i : Instance) (b : Arc Brief Global) → Stands p w seeds s h
    → instance s.instances id ≡ Some i → IsLive i → IsBriefOf p h i b.value → b.value.polys ≡ polys_of w seeds (keys_in w seeds s.instances) (role_told b)
brief_honest p w seeds s h id i b y found lives x =
    let same : held_polys h i.id ≡ held_polys h id = ap (held_polys h) (instance_id s.instances id i y.kept.numbered found) in
    x.polys ∙ same ∙ y.honest.told id i found lives ∙ ap (polys_of w seeds (keys_in w seeds s.instances)) (sym (role_is p h i b x))

-- ---- sums

live_if : (o : Option Instance) (i : Instance) → o ≡ Some i → (elim o as (λ x. Bool) [
  | None ↦ false
  | Some i ↦ not (is_void i.stage)
]) ≡ true → IsLive i
live_if None i e stands = cc
live_if (Some j) i e stands = let same : j ≡ i = cc in subst IsLive same (not-true (is_void j.stage) stands)

pub standing_lives : (is : List Instance) (id : ℕ) (i : Instance) → instance is id ≡ Some i → is_standing is id ≡ true → IsLive i
unfolding is_standing
standing_lives is id i found stands = live_if (instance is id) i found stands

-- ---- what may be handed out

pub key_if : (p : Params) (w : Setting) (seeds : List (List ℕ)) (s : State) (h : Store) (key : Option (Arc Key Global)) → Stands p w seeds s h → shared_if key ≡ held_key w h s.instances
    → IfSome key (λ k. k.value ≡ key_in w seeds s.instances)
key_if p w seeds s h None y made = tt
key_if p w seeds s h (Some key) y made = key_honest p w seeds s h key.value y made

pub made_of : (st : Standing) (es : List Entry) (id : ℕ) (said : Reply) (handed : Option (Arc Brief Global)) → NeedsNoSwitch (setting st) → state st ≡ state_after (rules_of st) es → said ≡ steps.brief (state st) id
    → IfSome handed (λ a. said ≡ brief_reply a.value)
    → IfSome handed (λ a. (i : Instance) → instance (state st).instances id ≡ Some i → IsBriefOf st.params (store st) i a.value)
    → IfSome handed (λ a. IsBrief st.params a.value)
made_of st es id said None free e replies goes told = tt
made_of st es id said (Some a) free e replies goes told =
    let b = has_brief (state st) id a.value (sym replies ∙ goes) in
    brief_fits st es b.instance_ (store st) a.value free e (instance_within (state st).instances id b.instance_ b.found) (told b.instance_ b.found)

pub polys_of_if : (p : Params) (w : Setting) (seeds : List (List ℕ)) (s : State) (h : Store) (id : ℕ) (said : Reply) (handed : Option (Arc Brief Global)) → Stands p w seeds s h
    → said ≡ steps.brief s id → IfSome handed (λ a. said ≡ brief_reply a.value)
    → IfSome handed (λ a. (i : Instance) → instance s.instances id ≡ Some i → IsBriefOf p h i a.value)
    → IfSome handed (λ a. a.value.polys ≡ polys_of w seeds (keys_in w seeds s.instances) (role_told a))
polys_of_if p w seeds s h id said None y replies goes told = tt
polys_of_if p w seeds s h id said (Some a) y replies goes told =
    let b = has_brief s id a.value (sym replies ∙ goes) in
    brief_honest p w seeds s h id b.instance_ a y b.found b.lives (told b.instance_ b.found)

pub sums_if : {X T : Type 0} (p : Params) (w : Setting) (seeds : List (List ℕ)) (s : State) (h : Store) (id : ℕ) (read : X → List (List ℕ)) (handed : Option X) → (T → Stands p w seeds s h)
    → IfSome handed (λ x. read x ≡ held_sums h id) → (IsSome handed → IsTrue (is_standing s.instances id))
    → IfSome handed (λ x. T → (i : Instance) → instance s.instances id ≡ Some i → read x ≡ sums_of w seeds (keys_in w seeds s.instances) i)
sums_if p w seeds s h id read None y value stands = tt
sums_if p w seeds s h id read (Some x) y value stands = λ t i found. value ∙ (y t).honest.sums id i found (standing_lives s.instances id i found (stands refl))

-- ---- the inputs of a circuit

ready_if : (who c : ℕ) (o : Option ℕ) → (elim o as (λ x. Verdict) [
  | None ↦ steps.says reply.Nothing
  | Some d ↦ steps.does (reply.Job d) (Turns d (Taken who))
]).reply ≡ reply.Job c → o ≡ Some c
ready_if who c None e = cc
ready_if who c (Some d) e = cc

taken_ready : (f : Fixed) (s : State) (who c : ℕ) → (steps.take f s who).reply ≡ reply.Job c → steps.next_ready f s ≡ Some c
unfolding steps.take
taken_ready f s who c e = ready_if who c (steps.next_ready f s) e

taken_inputs : (p : Params) (w : Setting) (seeds : List (List ℕ)) (s : State) (h : Store) (c : ℕ) → Stands p w seeds s h → steps.next_ready (rules w) s ≡ Some c
    → map cipher_or (get_or h.inputs c []) ≡ inputs_of w seeds (key_in w seeds s.instances) c
taken_inputs p w seeds s h c y e =
    let found = found_ready (rules w) s c e in
    ready_ones_have_inputs p w seeds s h c y (omega (arith, found.1, rules_number w)) found.0

pub inputs_if : (p : Params) (w : Setting) (seeds : List (List ℕ)) (s : State) (h : Store) (who : ℕ) (job : Option Job) → Stands p w seeds s h
    → IfSome job (λ j. (steps.take (rules w) s who).reply ≡ reply.Job j.number) → IfSome job (λ j. IsJobFor w h j.number j)
    → IfSome job (λ j. j.inputs ≡ inputs_of w seeds (key_in w seeds s.instances) j.number)
inputs_if p w seeds s h who None y goes is = tt
inputs_if p w seeds s h who (Some j) y goes is = is.inputs ∙ taken_inputs p w seeds s h j.number y (taken_ready (rules w) s who j.number goes)

-- its circuit needs no key switch
free_at : (w : Setting) (s : State) (c : ℕ) → NeedsNoSwitch w → steps.next_ready (rules w) s ≡ Some c → is_switch_free (nodes_at w c) ≡ true
free_at w s c free e =
    let found = found_ready (rules w) s c e in
    All-get_or IsSwitchFree w.offers c no_offer (omega (arith, found.1, rules_number w)) free

pub free_if : (w : Setting) (s : State) (h : Store) (who : ℕ) (job : Option Job) → NeedsNoSwitch w
    → IfSome job (λ j. (steps.take (rules w) s who).reply ≡ reply.Job j.number) → IfSome job (λ j. IsJobFor w h j.number j) → IfSome job (λ j. is_switch_free j.circuit.value ≡ true)
free_if w s h who None free goes is = tt
free_if w s h who (Some j) free goes is = ap is_switch_free is.circuit ∙ free_at w s j.number free (taken_ready (rules w) s who j.number goes)

-- ---- the public key fits, whatever the shares were

one_row : (l : ℕ) → rows_of Pk l ≡ 1
unfolding rows_of
one_row l = refl

-- the sums of an instance of the public key are one polynomial
first_sum : (t : Table) (k : ℕ) (i : Instance) → k < length t.instances.items → get_or t.instances.items k i ≡ i → i.signature ≡ Pk
    → IsPoly t.params.q t.params.n (get_or (get_or t.sums.items k []) 0 [])
first_sum t k i l here pk =
    let many : length t.sums.items ≡ length t.instances.items =
    sym (length-map t.sums.items row_count) ∙ ap length t.rows ∙ length-map t.instances.items (row_counts t.params) in
    let rows : length (get_or t.sums.items k []) ≡ row_counts t.params i =
    sym (get_or-map row_count t.sums.items k [] 0 (omega arith)) ∙ ap (λ (z : List ℕ). get_or z k 0) t.rows
    ∙ get_or-map (row_counts t.params) t.instances.items k i 0 l ∙ ap (row_counts t.params) here in
    let one : row_counts t.params i ≡ 1 = rw pk (one_row (digit_rows t.params.q t.params.digit_bits)) in
    t.fits k [] (omega arith) 0 [] (omega arith)

pub key_fits : (st : Standing) (es : List Entry) (key : Key) → state st ≡ state_after (rules_of st) es → Some key ≡ held_key (setting st) (store st) (state st).instances
    → KeyFits st.params.q st.params.n key
unfolding pk_from
key_fits st es key e made =
    let m = has_made (setting st) (store st) (state st).instances key made in
    let i = m.instance in
    let found = found_is Pk (state st).instances i m.found in
    let at : i.id ≡ found.0.0 + 1 = numbered_at (state st).instances i (kept st es e).numbered found.0 in
    let place : i.id - 1 ≡ found.0.0 = omega arith in
    let sum : IsPoly st.params.q st.params.n (get_or (held_sums (store st) i.id) 0 []) =
    rw place (subst (λ (p : Params). IsPoly p.q p.n (get_or (get_or st.table.sums.items found.0.0 []) 0 [])) st.table_is (first_sum st.table found.0.0 i found.0.1 found.0.2 found.1.signature)) in
    subst (λ (z : Key). KeyFits st.params.q st.params.n z) (sym m.made) (record {
      p0 = sum;
      p1 = uniform_poly_is st.params.q st.params.n st.public (instance_stream i.id) (4 * st.params.n * 0) (omega (arith, st.params.modulus.0));
    })

pub fits_if : (st : Standing) (es : List Entry) (key : Option (Arc Key Global)) → state st ≡ state_after (rules_of st) es → shared_if key ≡ held_key (setting st) (store st) (state st).instances
    → IfSome key (λ k. KeyFits st.params.q st.params.n k.value)
fits_if st es None e made = tt
fits_if st es (Some key) e made = key_fits st es key.value e made
