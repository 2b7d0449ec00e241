-- An accepted program keeps the declaration and the kinds that its bytes were judged with.
use Rattle.std.proofs.Common.{◌≡◌, ◌∙◌, ℕ, List, Option, Some, None, ap, sym}
use Rattle.ebpf_flow.specs.declared.followed.Followed.{Followed}
use Rattle.ebpf_flow.specs.declared.followed.Followed.TheVariants.{Undecoded, Misled, Flowed}
use Rattle.ebpf_state.specs.declared.kinds.KindRow.{KindRow}
use Rattle.ebpf_verify.specs.declared.decl.Decl.{Decl}
use Rattle.ebpf_verify.specs.declared.fault.VerifyCode.{VerifyCode}
use Rattle.ebpf_verify.specs.Examined.{examined_by, examined_of}
use Rattle.ebpf_verify.specs.Subject.{Subject}
use Rattle.ebpf_command.specs.declared.judge.Judged.{Judged}
use Rattle.ebpf_command.specs.declared.judge.Judged.TheVariants.{Accepted}
use Rattle.ebpf_command.specs.Judging.{IsJudged, judged_as}

by_verdict : (v : Option (ℕ × VerifyCode)) (s t : Subject) → Accepted t ≡ judged_as (examined_by v s) → t ≡ s
by_verdict (Some refusal) s t e = let never : ⊥ = cc in absurd never
by_verdict None s t e = cc

by_followed : (f : Followed) (decl : Decl) (rows : List KindRow) (t : Subject) → Accepted t ≡ judged_as (examined_of f decl rows)
    → (t.decl ≡ decl) × (t.rows ≡ rows)
by_followed (Undecoded slot code) decl rows t e = let never : ⊥ = cc in absurd never
by_followed (Misled p slot code) decl rows t e = let never : ⊥ = cc in absurd never
by_followed (Flowed p) decl rows t e =
    let s : Subject = record { program = p; decl = decl; rows = rows } in
    let same : t ≡ s = by_verdict _ s t e in
    (ap (λ (u : Subject). u.decl) same, ap (λ (u : Subject). u.rows) same)

accepted : (bytes : List ℕ) (decl : Decl) (rows : List KindRow) (was : Judged) (s : Subject) → IsJudged bytes decl rows was
    → was ≡ Accepted s → (s.decl ≡ decl) × (s.rows ≡ rows)
accepted bytes decl rows was s is e =
    by_followed is.is_examined.followed decl rows s (sym e ∙ (is.is ∙ ap judged_as is.is_examined.is))

pub accepted_decl : (bytes : List ℕ) (decl : Decl) (rows : List KindRow) (was : Judged) (s : Subject) → IsJudged bytes decl rows was
    → was ≡ Accepted s → s.decl ≡ decl
accepted_decl bytes decl rows was s is e = (accepted bytes decl rows was s is e).0

pub accepted_rows : (bytes : List ℕ) (decl : Decl) (rows : List KindRow) (was : Judged) (s : Subject) → IsJudged bytes decl rows was
    → was ≡ Accepted s → s.rows ≡ rows
accepted_rows bytes decl rows was s is e = (accepted bytes decl rows was s is e).1
