-- The store is honest after any call, where what is brought to its deed is honest; and so is what calls bring.
use Rattle.std.proofs.Common.{◌≡◌, ◌∙◌, sym, ap, subst, refl, ℕ, Bool, true, false, List, length, Some}
use Rattle.std.specs.Prelude.{if◌then◌else◌}
use Rattle.ring_spec.specs.Pairs.{Cipher}
use Rattle.param_set.specs.declared.params.Params.{Params}
use Rattle.proto_names.specs.Names.{rows_of}
use Rattle.proto_names.specs.Instances.{instance}
use Rattle.session_rules.specs.declared.call.Call.{Call}
use Rattle.session_rules.specs.declared.call.Call.TheVariants as call
use Rattle.session_rules.specs.declared.reply.Reply.{Reply}
use Rattle.session_rules.specs.declared.reply.Reply.TheVariants as reply
use Rattle.session_rules.specs.declared.deed.Deed.{Deed}
use Rattle.session_rules.specs.declared.deed.Deed.TheVariants.{Nothing, Joins, Loses, Counts, Gives, Turns}
use Rattle.session_rules.specs.declared.state.CircuitState.TheVariants.{Refused, Idle, Taken, Evaluated, Answered}
use Rattle.session_rules.specs.States.{State}
use Rattle.session_rules.specs.Issues.{issue}
use Rattle.session_rules.specs.Deeds.{changed, leads_on, done}
use Rattle.session_rules.specs.Steps.{deliver, input, finish, judge, step}
use Rattle.session_rules.specs.Facts.{Kept, IsLater}
use Rattle.session_rules.specs.Allowed.{Allows}
use Rattle.session_rules.proofs.Judged.{judged}
use Rattle.session_rules.proofs.Marks.{Lacks, lacks_from}
use Rattle.session_rules.proofs.Keeps.{waits, turned, deed_next, issue_next}
use Rattle.session_rules.proofs.Grounds.{deed_well}
use Rattle.session_spec.specs.Settings.{Setting, rules, IsSetting}
use Rattle.session_spec.specs.Outputs.{key_in, keys_in, input_of, output_of, share_of}
use Rattle.session_spec.specs.Stores.{Store, Brought, share_brought, cipher_brought, grown, with_input, with_output, with_turn, with_deed, store_done}
use Rattle.session_spec.specs.Honesty.{IsHonest, BringsShare, Brings}
use Rattle.session_laws.specs.Laws.{AnswersArePlain, Stands, CallsKeepHonest, SharesAreBrought, InputsAreBrought, OutputsAreBrought}
use Rattle.session_laws.proofs.Plans.{rules_rows}
use Rattle.session_laws.proofs.Keys.{Keyed, keyed}
use Rattle.session_laws.proofs.Holding.{Holds, holds_from, honest_from, issue_holds}
use Rattle.session_laws.proofs.Deeds.{join_holds, lose_holds, turn_holds, evaluate_holds, give_holds, count_holds, count_lengths, lost_lengths}

-- ---- a deed by itself

record After (w : Setting) (seeds : List (List ℕ)) (t : State) (h : Store) : Type 0 where
  holds : Holds w seeds t h
  told : length h.told ≡ length t.instances
  sums : length h.sums ≡ length t.instances

deed_after : AnswersArePlain → (p : Params) (w : Setting) (seeds : List (List ℕ)) (s : State) (h : Store) (caller : ℕ) (c : Call) (r : Reply) (d : Deed) (b : Brought) → Stands p w seeds s h → Allows (rules w) s caller c r d
    → Brings w seeds s d b → Kept (rules w) (changed d s) → IsLater s (changed d s) → After w seeds (changed d s) (with_deed w d b h)
unfolding changed with_deed with_turn with_input with_output
deed_after law p w seeds s h caller c r Nothing b y a brings k later =
    let m = y.matches in record { holds = holds_from w seeds s h y.kept.numbered y.honest; told = m.told; sums = m.sums }
deed_after law p w seeds s h caller c r (Joins q) b y a brings k later =
    let m = y.matches in record { holds = join_holds p w seeds s h y q k later; told = m.told; sums = m.sums }
deed_after law p w seeds s h caller c r (Loses q) b y a brings k later =
    let m = y.matches in
    let many = lost_lengths q s in
    record { holds = lose_holds p w seeds s h y q k later; told = m.told ∙ many; sums = m.sums ∙ many }
deed_after law p w seeds s h caller c r (Counts i q) b y a brings k later =
    let its = waits (rules w) s c r i q y.kept a in
    let many = count_lengths p w seeds s h y law i q b.rows its brings in
    record { holds = count_holds p w seeds s h y law i q b.rows its brings k later; told = many.0; sums = many.1 }
deed_after law p w seeds s h caller c r (Gives d j) b y a brings k later =
    let m = y.matches in record { holds = give_holds p w seeds s h y d j b.cipher a.input brings; told = m.told; sums = m.sums }
deed_after law p w seeds s h caller c r (Turns d (Refused place bound limit)) b y a brings k later = absurd a
deed_after law p w seeds s h caller c r (Turns d Idle) b y a brings k later =
    let m = y.matches in record { holds = turn_holds p w seeds s h y d Idle refl k later; told = m.told; sums = m.sums }
deed_after law p w seeds s h caller c r (Turns d (Taken who)) b y a brings k later =
    let m = y.matches in record { holds = turn_holds p w seeds s h y d (Taken who) refl k later; told = m.told; sums = m.sums }
deed_after law p w seeds s h caller c r (Turns d Evaluated) b y a brings k later =
    let m = y.matches in record { holds = evaluate_holds p w seeds s h y d b.cipher brings (turned (rules w) s caller c r d Evaluated a) k later; told = m.told; sums = m.sums }
deed_after law p w seeds s h caller c r (Turns d Answered) b y a brings k later = absurd a

-- ---- and what is issued then

then_issued : (p : Params) (w : Setting) (seeds : List (List ℕ)) (t : State) (h : Store) → IsSetting p w → Kept (rules w) t → Keyed w t → After w seeds t h → (leads : Bool)
    → IsHonest w seeds (if leads then issue (rules w) t else t) (if leads then grown w (if leads then issue (rules w) t else t).instances h else h)
then_issued p w seeds t h setting k keys x true = honest_from w seeds (issue (rules w) t) (grown w (issue (rules w) t).instances h) (issue_next (rules w) t k).0.numbered (issue_holds p w seeds t h setting k keys x.told x.sums x.holds)
then_issued p w seeds t h setting k keys x false = honest_from w seeds t h k.numbered x.holds

pub calls_keep_honest : AnswersArePlain → CallsKeepHonest
unfolding step done store_done
calls_keep_honest law p w seeds s h caller c b y brings =
    let v = judge (rules w) s caller c in
    let a = judged (rules w) s caller c in
    let next = deed_next (rules w) s caller c v.reply v.deed y.kept a in
    let well = deed_well (rules w) s caller c v.reply v.deed (y.kept, y.grounded) a in
    then_issued p w seeds (changed v.deed s) (with_deed w v.deed b h) y.setting next.0 (keyed w (changed v.deed s) well.1)
    (deed_after law p w seeds s h caller c v.reply v.deed b y a brings next.0 next.1) (leads_on v.deed)

-- ---- what calls bring

share_is_brought : (w : Setting) (seeds : List (List ℕ)) (s : State) (id party : ℕ) (rows : List (List ℕ)) (r : Reply) (d : Deed) → Kept (rules w) s → BringsShare w seeds s id party rows
    → Allows (rules w) s 0 (call.Deliver id party (length rows)) r d → Brings w seeds s d (share_brought rows)
share_is_brought w seeds s id party rows r Nothing k brings a = tt
share_is_brought w seeds s id party rows r (Joins q) k brings a = tt
share_is_brought w seeds s id party rows r (Loses q) k brings a = tt
share_is_brought w seeds s id party rows r (Counts i q) k brings a =
    let e : call.Deliver id party (length rows) ≡ call.Deliver a.id q (rows_of i.signature (rules w).rows) = a.call in
    let id_ : a.id ≡ id = cc in
    let party_ : q ≡ party = cc in
    let rows_ : length rows ≡ rows_of i.signature (rules w).rows = cc in
    let its = waits (rules w) s (call.Deliver id party (length rows)) r i q k a in
    let issued = subst (λ (z : ℕ). instance s.instances z ≡ Some i) id_ a.part.issued in
    let awaited = lacks_from party i (subst (λ (z : ℕ). Lacks z i) party_ (record { opened = its.opened; member = its.member; unsent = its.unsent })) in
    brings i issued awaited (rows_ ∙ ap (rows_of i.signature) (rules_rows w)) ∙ ap (share_of w seeds (keys_in w seeds s.instances) i) (sym party_)
share_is_brought w seeds s id party rows r (Gives d j) k brings a = let e = a.call in cc
share_is_brought w seeds s id party rows r (Turns d (Refused place bound limit)) k brings a = tt
share_is_brought w seeds s id party rows r (Turns d Idle) k brings a = tt
share_is_brought w seeds s id party rows r (Turns d (Taken who)) k brings a = tt
share_is_brought w seeds s id party rows r (Turns d Evaluated) k brings a = let e = a.call in cc
share_is_brought w seeds s id party rows r (Turns d Answered) k brings a = tt

pub shares_are_brought : SharesAreBrought
unfolding judge
shares_are_brought w seeds s id party rows k brings =
    let v = deliver (rules w) s id party (length rows) in share_is_brought w seeds s id party rows v.reply v.deed k brings (judged (rules w) s 0 (call.Deliver id party (length rows)))

input_is_brought : (w : Setting) (seeds : List (List ℕ)) (s : State) (c k : ℕ) (ct : Cipher) (r : Reply) (d : Deed) → (r ≡ reply.Given → ct ≡ input_of w seeds (key_in w seeds s.instances) c k)
    → Allows (rules w) s 0 (call.Input c k) r d → Brings w seeds s d (cipher_brought ct)
input_is_brought w seeds s c k ct r Nothing brings a = tt
input_is_brought w seeds s c k ct r (Joins q) brings a = tt
input_is_brought w seeds s c k ct r (Loses q) brings a = tt
input_is_brought w seeds s c k ct r (Counts i q) brings a = let e = a.call in cc
input_is_brought w seeds s c k ct r (Gives d j) brings a =
    let e : call.Input c k ≡ call.Input d j = a.call in
    let c_ : c ≡ d = cc in
    let k_ : k ≡ j = cc in
    brings a.reply ∙ ap (λ (z : ℕ). input_of w seeds (key_in w seeds s.instances) z k) c_ ∙ ap (input_of w seeds (key_in w seeds s.instances) d) k_
input_is_brought w seeds s c k ct r (Turns d (Refused place bound limit)) brings a = tt
input_is_brought w seeds s c k ct r (Turns d Idle) brings a = tt
input_is_brought w seeds s c k ct r (Turns d (Taken who)) brings a = tt
input_is_brought w seeds s c k ct r (Turns d Evaluated) brings a = let e = a.call in cc
input_is_brought w seeds s c k ct r (Turns d Answered) brings a = tt

pub inputs_are_brought : InputsAreBrought
unfolding judge
inputs_are_brought w seeds s c k ct brings = let v = input (rules w) s c k in input_is_brought w seeds s c k ct v.reply v.deed brings (judged (rules w) s 0 (call.Input c k))

output_is_brought : (w : Setting) (seeds : List (List ℕ)) (s : State) (who c : ℕ) (ct : Cipher) (r : Reply) (d : Deed) → (r ≡ reply.Finished → ct ≡ output_of w seeds (keys_in w seeds s.instances c) c)
    → Allows (rules w) s who (call.Finish c) r d → Brings w seeds s d (cipher_brought ct)
output_is_brought w seeds s who c ct r Nothing brings a = tt
output_is_brought w seeds s who c ct r (Joins q) brings a = tt
output_is_brought w seeds s who c ct r (Loses q) brings a = tt
output_is_brought w seeds s who c ct r (Counts i q) brings a = let e = a.call in cc
output_is_brought w seeds s who c ct r (Gives d j) brings a = let e = a.call in cc
output_is_brought w seeds s who c ct r (Turns d (Refused place bound limit)) brings a = tt
output_is_brought w seeds s who c ct r (Turns d Idle) brings a = tt
output_is_brought w seeds s who c ct r (Turns d (Taken its)) brings a = tt
output_is_brought w seeds s who c ct r (Turns d Evaluated) brings a =
    let e : call.Finish c ≡ call.Finish d = a.call in
    let c_ : c ≡ d = cc in
    brings a.reply ∙ ap (λ (z : ℕ). output_of w seeds (keys_in w seeds s.instances z) z) c_
output_is_brought w seeds s who c ct r (Turns d Answered) brings a = tt

pub outputs_are_brought : OutputsAreBrought
unfolding judge
outputs_are_brought w seeds s who c ct brings = let v = finish s who c in output_is_brought w seeds s who c ct v.reply v.deed brings (judged (rules w) s who (call.Finish c))
