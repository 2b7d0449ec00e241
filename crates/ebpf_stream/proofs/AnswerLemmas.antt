-- What one line is answered.
use Rattle.std.proofs.Common.{◌≡◌, ℕ, zero, suc, ◌+◌, ◌<◌, List, [], ◌∷◌, ◌++◌, length, map, slice_get, get_or, Option, Some, None, Result}
use Rattle.std.proofs.Common.{Ok, Err, OnOk, refl, sym, subst, arith}
use Rattle.std.proofs.lemmas.List.Elements.{All-push}
use Rattle.std.specs.Prelude.{All, IfSome, IfNone}
use Rattle.ebpf_insn.specs.Program.{instructions}
use Rattle.ebpf_verify.specs.Subject.{Subject}
use Rattle.ebpf_machine.specs.declared.report.Report.{Report}
use Rattle.ebpf_machine.specs.Whole.{IsReportOf}
use Rattle.ebpf_host.specs.declared.program.Program.{Program}
use Rattle.ebpf_host.specs.Reports.{IsCutOff, IsReportWithin}
use Rattle.job_list.specs.declared.jobs.Job.{Job}
use Rattle.ebpf_reader.specs.JobLines.{job_of, stream_shape}
use Rattle.ebpf_reader.specs.Words.{words}
use Rattle.ebpf_stream.specs.Answering.{Setting, Position, IsAnswered, IsDone, stream_fault}

pub answered_as : (s : Setting) (line : List ℕ) (job : Option Job) (a b : Position) (text : List ℕ) → stream_fault s.parsed line ≡ None
    → job ≡ job_of s.parsed (stream_shape (words line)) → IsDone s job a b text → IsAnswered s line a b text
answered_as s line job a b text fine is done = rw (fine, sym is) done

-- a run that may do more instructions than its program has exits
pub report_whole : (s : Subject) (context : List ℕ) (r : Report) → IsReportWithin s context (length (instructions s.program) + 1) r → IsReportOf s context r
report_whole s context r h = by r.exit refl where
  by : (exit : Option ℕ) → r.exit ≡ exit → IsReportOf s context r
  by None is =
      let cut = subst (λ (e : Option ℕ). IfNone e ((r.executed ≡ length (instructions s.program) + 1) × IsCutOff s context r)) is h.cut_off in
      absurd (omega (arith, h.bounded, cut.0))
  by (Some exit) is = subst (λ (e : Option ℕ). IfSome e (λ n. IsReportOf s context r)) is h.exited

-- an element of a list, by a function of it
pub element_inside : {X : Type 0} (f : X → ℕ) (xs : List X) (k n : ℕ) → slice_get (map f xs) k ≡ Some n → k < length xs
element_inside f [] k n h = absurd cc
element_inside f (x ∷ xs) zero n h = omega arith
element_inside f (x ∷ xs) (suc k) n h = omega (arith, element_inside f xs k n h)

pub element_is : {X : Type 0} (f : X → ℕ) (xs : List X) (k n : ℕ) (d : X) → slice_get (map f xs) k ≡ Some n → f (get_or xs k d) ≡ n
element_is f [] k n d h = absurd cc
element_is f (x ∷ xs) zero n d h = cc
element_is f (x ∷ xs) (suc k) n d h = element_is f xs k n d h

pub element_of : {X Y : Type 0} (f : X → Y) (xs : List X) (k : ℕ) (d : X) → k < length xs → slice_get (map f xs) k ≡ Some (f (get_or xs k d))
element_of f [] k d inside = absurd (omega (arith, inside))
element_of f (x ∷ xs) zero d inside = refl
element_of f (x ∷ xs) (suc k) d inside = element_of f xs k d (omega (arith, inside))

-- what a job did answers its line
pub answered_job : {T E : Type 0} (r : Result T E) (s : Setting) (line : List ℕ) (job : Job) (a b : Position) (old new : List ℕ) → stream_fault s.parsed line ≡ None
    → Some job ≡ job_of s.parsed (stream_shape (words line)) → OnOk r ((here : List ℕ) × IsDone s (Some job) a b here × (new ≡ old ++ here))
    → OnOk r ((here : List ℕ) × IsAnswered s line a b here × (new ≡ old ++ here))
answered_job (Err e) s line job a b old new fine is h = tt
answered_job (Ok x) s line job a b old new fine is h = (h.0, answered_as s line (Some job) a b h.0 fine is h.1, h.2)

-- one more program without data
pub alone_pushed : (programs : List Program) (p : Program) → All (λ q. q.data.items ≡ []) programs → p.data.items ≡ []
    → All (λ q. q.data.items ≡ []) (programs ++ p ∷ [])
alone_pushed programs p all none = All-push (λ (q : Program). q.data.items ≡ []) programs p all none
