-- A turn takes the next party or leaves it; after 32 turns k are taken where there are as many.
use Rattle.std.proofs.Common.{◌≡◌, ℕ, ◌+◌, subst, sym, ap, ◌∙◌, refl, arith, length}
use Rattle.proto_names.proofs.Members.{Chosen, Chosen-takes, Chosen-leaves, Chosen-enough, with_bit, members_all}
use Rattle.proto_names.proofs.Bits.{Chosen-least}
use Rattle.proto_names.proofs.sets.PartySet.least.Goals as goal
use Rattle.proto_names.proofs.sets.PartySet.least.Goals.{then-taken-k+then-has, else-taken-k, else-taken-k-via-then-taken-k+else-has, else-taken-k-via-else-taken-k}

pub loop-place-preserved : goal.loop-place-preserved
loop-place-preserved c =
    let set = c.args.self.now.bits in let k = c.args.k in
    let bits = c.loop-place.bits in let taken = c.loop-place.taken in let n = c.loop-place.place in
    let before = c.loop-place.invariant.so_far in
    elim c.if-taken-k.branch [
      | then-taken-k+then-has w ↦ record {
        few = omega arith;
        so_far =
            let e = w.bits-is ∙ with_bit bits n before.small (omega arith) in
            let more = Chosen-takes set k bits taken n before (omega arith) (sym w.has.ensures ∙ w.if-has.true) (omega arith) in
            let P : ℕ → Type 0 = λ z. Chosen set k z (taken + 1) (n + 1) in
            let Q : ℕ → Type 0 = λ z. Chosen set k c.if-taken-k.bits z (n + 1) in
            subst Q (sym w.taken-is) (subst P (sym e) more);
      }
      | else-taken-k w ↦ record {
        few = omega arith;
        so_far =
            let more = Chosen-leaves set k bits taken n before (elim w.else-taken-k.branch [
              | else-taken-k-via-then-taken-k+else-has v ↦ λ less. sym v.has.ensures ∙ v.if-has.false
              | else-taken-k-via-else-taken-k v ↦ λ less. absurd (omega arith)
            ]) in
            let P : ℕ → Type 0 = λ z. Chosen set k z taken (n + 1) in
            let Q : ℕ → Type 0 = λ z. Chosen set k c.if-taken-k.bits z (n + 1) in
            subst Q (sym w.taken-is) (subst P (sym w.bits-is) more);
      }
    ]

pub returns-then-taken-k-2-clause-enough : goal.returns-then-taken-k-2-clause-enough
returns-then-taken-k-2-clause-enough c =
    let all = ap length (members_all c.args.self.now.bits) in
    let some = Chosen-enough c.args.self.now.bits c.args.k c.loop-place.bits c.loop-place.taken c.loop-place.place c.loop-place.invariant.so_far in
    let last : c.loop-place.place ≡ 32 = omega arith in
    let there = rw last at some in
    ((λ e. omega (arith, there)), (λ h. refl))

pub returns-else-taken-k-2-clause-enough : goal.returns-else-taken-k-2-clause-enough
returns-else-taken-k-2-clause-enough c =
    let all = ap length (members_all c.args.self.now.bits) in
    let some = Chosen-enough c.args.self.now.bits c.args.k c.loop-place.bits c.loop-place.taken c.loop-place.place c.loop-place.invariant.so_far in
    let last : c.loop-place.place ≡ 32 = omega arith in
    let there = rw last at some in
    ((λ e. cc), (λ h. absurd (omega (arith, there))))

pub returns-then-taken-k-2-clause-bits : goal.returns-then-taken-k-2-clause-bits
returns-then-taken-k-2-clause-bits c =
    let last : c.loop-place.place ≡ 32 = omega arith in
    let chosen = c.loop-place.invariant.so_far in
    let all : Chosen c.args.self.now.bits c.args.k c.loop-place.bits c.loop-place.taken 32 = rw last at chosen in
    Chosen-least c.args.self.now.bits c.args.k c.loop-place.bits c.loop-place.taken all
