-- A read that comes after a write on a new site gives what was written, by the read's promise.
use Rattle.std.proofs.Common.{◌≡◌, ℕ, cond, eqb, List, [], ◌∷◌, None, Ok, Result, sym, refl, ap, ◌∙◌, subst}
use Rattle.std.proofs.lemmas.Option.{same_Some}
use Rattle.records.specs.declared.fault.SiteFault.{SiteFault}
use Rattle.rules.specs.declared.answer.Source.{Source}
use Rattle.rules.specs.Site.{State, outcome}
use Rattle.rules.specs.Replies.{Out, out, Open, Read, Write, called, replied, open_reply, plain_reply}
use Rattle.rules.specs.Making.{Start, made}
use Rattle.rules.specs.Carry.{Continues}
use Rattle.rules.specs.History.{Act, single, log}
use Rattle.rules.specs.Book.{Book, fed, entered, writes}
use Rattle.rules.specs.declared.answer.Answer.{Answer}
use Rattle.site.specs.Promises.{open_does, write_does, read_shown}

-- an accepted write is the last write
last_is : {V : Type 0} (b : Book V) (v : V) (a : Answer) → a.number ≡ 0 → (fed b (writes 0 v) a 0).last ≡ v
last_is b v a e = ap (λ n. (cond (eqb n 0) (entered b (writes 0 v)) b 0).last) e

module _ {V : Type 0} (blank : V) (x : Start V) (s₀ s₁ s₂ s₃ : State V) (n : ℕ) (k : Source) (v w : V) (start : s₀ ≡ made x) (fit : None ≡ s₀.table.unfit)
    (r₁ : Result ℕ SiteFault) (r₂ : Result (Unit {0}) SiteFault) (opened : outcome s₁ r₁ ≡ open_does s₀ 1) (written : outcome s₂ r₂ ≡ write_does s₁ 1 0 v)
    (open_ok : r₁ ≡ Ok n) (write_ok : r₂ ≡ Ok tt) where
  open_is : out s₁ (open_reply (Ok n)) ≡ called blank s₀ (Open 1)
  unfolding open_does called
  open_is = ap (λ (r : Result ℕ SiteFault). out s₁ (open_reply r)) (sym open_ok) ∙ ap (replied open_reply) opened

  write_is : out s₂ (plain_reply 0 (Ok tt)) ≡ called blank s₁ (Write 1 0 v)
  unfolding write_does called
  write_is = ap (λ (r : Result (Unit {0}) SiteFault). out s₂ (plain_reply 0 r)) (sym write_ok) ∙ ap (replied (plain_reply 0)) written

  both : called blank (called blank (made x) (Open 1)).state (Write 1 0 v) ≡ out s₂ (plain_reply 0 (Ok tt))
  both =
      ap (λ (s : State V). called blank (called blank s (Open 1)).state (Write 1 0 v)) (sym start)
      ∙ ap (λ (o : Out V). called blank o.state (Write 1 0 v)) (sym open_is) ∙ sym write_is

  pub echoes : (r₃ : Result Source SiteFault) → Continues blank s₂ (Read 1 0) s₃ (read_shown 0 w r₃) → r₃ ≡ Ok k → w ≡ v
  echoes r₃ shown read_ok =
      let upheld = subst (λ (r : Result Source SiteFault). Continues blank s₂ (Read 1 0) s₃ (read_shown 0 w r)) read_ok shown in
      let before : List (Act V) = single (Open 1) ∷ single (Write 1 0 v) ∷ [] in
      let u = upheld.whatever x before (ap (λ (s : State V). s.table.unfit) (sym start) ∙ sym fit) (ap (λ (o : Out V). o.state) both) in
      let r = u.each_read (log (called blank) (made x) before) _ [] refl in
      same_Some _ _ (r refl) ∙ last_is _ v (called blank (called blank (made x) (Open 1)).state (Write 1 0 v)).reply.answer (ap (λ (o : Out V). o.reply.answer.number) both)
