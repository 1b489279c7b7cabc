use Rattle.std.proofs.Common.{◌≡◌, ◌∙◌, sym, ap, subst, refl, true, false, Some}
use Rattle.std.specs.Option.{option_copied}
use Rattle.proto_names.specs.Instances.{instance}
use Rattle.proto_names.specs.declared.instance.Instance.{Instance}
use Rattle.session_rules.specs.Facts.{IsLive}
use Rattle.instance_table.specs.declared.brief.Brief.{Brief}
use Rattle.session_rules.specs.declared.reply.Reply.TheVariants as reply
use Rattle.session_rules.specs.Steps.{brief as brief_at}
use Rattle.session_state.specs.Handed.{IsBriefOf, brief_reply}
use Rattle.session_state.specs.Standings.{state, store}
use Rattle.session_state.proofs.Briefs.{some_parts, lives_if, stands_if, brief_live, brief_of}
use Rattle.session_state.proofs.standing.Standing.brief.Goals as goal

pub unreachable-requires : goal.unreachable-requires
unreachable-requires c =
    let it = c.in-Some.instance.now in
    let is = c.args.self.now.table.instances.items in
    let at : instance is c.args.id ≡ Some it = sym c.find.ensures.value ∙ ap option_copied c.in-Some.is in
    let stands = stands_if is c.args.id it at (lives_if it c.in_default-stage.not-Void) in
    let some = c.brief.ensures.while_it_stands.1 stands in
    let none : false ≡ true = rw c.in_default-brief.is at some in
    cc

pub returns : goal.returns
returns c =
    let st = c.args.self.now in
    let it = c.in-Some.instance.now in
    let at : instance st.table.instances.items c.args.id ≡ Some it = sym c.find.ensures.value ∙ ap option_copied c.in-Some.is in
    let live = lives_if it c.in_default-stage.not-Void in
    let brief = c.in-Some-brief.ensures in
    let same = c.in_ok-try_clone.ensures in
    let told : (i : Instance) → instance st.table.instances.items c.args.id ≡ Some i → IsBriefOf st.params (store st) i c.in-Some-brief.brief.now.value = λ i e.
    brief_of st.params (store st) st.table.instances.items st.table.briefs.items c.args.id i c.in-Some-brief.brief.now st.table.numbered refl e brief.value brief.role st.grouped
    (st.holds.told c.args.id i e (subst (λ (j : Instance). IsLive j) (some_parts it i (sym at ∙ e)) live)) in
    let it_is = told it at in
    let replies : reply.Brief it.signature it.set ≡ brief_at (state st) c.args.id = brief_live (state st) c.args.id it at live in
    record {
      reply = replies;
      plain = refl;
      told = λ i e. subst (λ (b : Brief). IsBriefOf st.params (store st) i b) (sym same) (told i e);
      there = λ i e l z. cc;
      stands = (rw (it_is.signature, it_is.set) refl) ∙ ap brief_reply (sym same);
      free = tt;
    }
