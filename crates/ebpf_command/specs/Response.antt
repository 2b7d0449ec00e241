-- A command's response: a text, and how the command that writes it ends.
use Rattle.std.specs.Prelude.{ℕ, List}
use Rattle.ebpf_command.specs.declared.done.Done.{Done}
use Rattle.ebpf_command.specs.declared.done.Done.TheVariants.{Clean, Refused}

pub record Response : Type 0 where
  pub text : List ℕ
  pub done : Done

-- the text holds a refusal or a fault
abbrev pub refused_response : List ℕ → Response
refused_response line = record { text = line; done = Refused }

-- nothing is refused
abbrev pub clean_response : List ℕ → Response
clean_response text = record { text = text; done = Clean }
