-- What is brought is honest at a later state, where it was read at an earlier one.
use Rattle.std.proofs.Common.{◌≡◌, ◌∙◌, sym, ap, subst, ℕ, true, inl, inr, List, length, Some}
use Rattle.std.proofs.lemmas.Bool.{both_ways, cases_Bool}
use Rattle.share_spec.specs.Sets.{has}
use Rattle.ring_spec.specs.Pairs.{Key}
use Rattle.proto_names.specs.Names.{rows_of}
use Rattle.proto_names.specs.Instances.{instance}
use Rattle.proto_names.specs.declared.signature.Signature.{Signature}
use Rattle.proto_names.specs.declared.sets.PartySet.{PartySet}
use Rattle.proto_names.specs.declared.instance.Instance.{Instance}
use Rattle.session_rules.specs.States.{State}
use Rattle.session_rules.specs.Facts.{IsSameLater}
use Rattle.session_rules.proofs.Marks.{Lacks, lacks_is, lacks_from}
use Rattle.session_spec.specs.Settings.{Setting, gadget_rows}
use Rattle.session_spec.specs.Outputs.{keys_in, input_of, share_of}
use Rattle.session_spec.specs.Honesty.{BringsShare}
use Rattle.session_laws.specs.Constancy.{LeadsOn}
use Rattle.session_laws.specs.Turns.{ContentStandsOn}
use Rattle.session_laws.proofs.Keys.{key_stays, outputs_stay}
use Rattle.session_laws.proofs.Constancy.{found_later, issued_ones_stay}

-- who lacks a share later lacked it before
lacked : (p : ℕ) (i now : Instance) → IsSameLater i now → Lacks p now → Lacks p i
lacked p i now same l = record {
  opened = same.opened l.opened;
  member = subst (λ (z : PartySet). has z.bits p ≡ true) same.set l.member;
  unsent = elim (cases_Bool (has i.sent.bits p)) [
    | inl sent ↦ absurd (both_ways (has now.sent.bits p) l.unsent (same.sent p sent))
    | inr unsent ↦ unsent
  ];
}

-- an instance has the same shares later
same_share : (w : Setting) (seeds : List (List ℕ)) (s t : State) → LeadsOn w s t → (id p : ℕ) (i now : Instance)
    → instance s.instances id ≡ Some i → instance t.instances id ≡ Some now
    → share_of w seeds (keys_in w seeds s.instances) i p ≡ share_of w seeds (keys_in w seeds t.instances) now p
same_share w seeds s t y id p i now issued there =
    let stays = issued_ones_stay w seeds s t id i y issued in
    let it : stays.0 ≡ now = let both : Some stays.0 ≡ Some now = sym stays.1 ∙ there in cc in
    subst (λ (z : Instance). share_of w seeds (keys_in w seeds s.instances) i p ≡ share_of w seeds (keys_in w seeds t.instances) z p) it (stays.2.shares p)

share_stands : (w : Setting) (seeds : List (List ℕ)) (s t : State) → LeadsOn w s t → (id p : ℕ) (rows : List (List ℕ)) (i : Instance)
    → instance s.instances id ≡ Some i → BringsShare w seeds s id p rows → BringsShare w seeds t id p rows
share_stands w seeds s t y id p rows i issued brings now there lacking shape =
    let x = found_later s t id i y.later issued in
    let it : x.now ≡ now = let both : Some x.now ≡ Some now = sym x.there ∙ there in cc in
    let same : IsSameLater i now = subst (IsSameLater i) it x.same in
    let before = lacked p i now same (lacks_is p now lacking) in
    let rows_are : length rows ≡ rows_of i.signature (gadget_rows w) = shape ∙ ap (λ (z : Signature). rows_of z (gadget_rows w)) same.signature in
    brings i issued (lacks_from p i before) rows_are ∙ same_share w seeds s t y id p i now issued there

pub content_stands : ContentStandsOn
content_stands w seeds s t y = record {
  share = share_stands w seeds s t y;
  input = λ c k ct done is given. is ∙ ap (λ (z : Key). input_of w seeds z c k) (key_stays w seeds s t y.kept_later y.later done);
  output = λ who c ct begun is finished. is ∙ outputs_stay w seeds s t c y.kept y.grounded y.kept_later y.later begun;
}
