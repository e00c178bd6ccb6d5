-- The programs of this crate, the state before the first record, and what is due in a state.
use Rattle.std.specs.Prelude.{◌+◌, Bool, true, false, if◌then◌else◌}
use Rattle.ckr_base.specs.declared.programs.NextDue.{NextDue}
use Rattle.ckr_base.specs.declared.programs.NextDue.TheVariants.{Checkpoint, Cancel}
use Rattle.ckr_jcl.specs.declared.deck.Kind.{Kind}
use Rattle.ckr_jcl.specs.declared.deck.Kind.TheVariants.{Copy, Select, Print, Br14}
use Rattle.ckr_jcl.specs.declared.deck.Parm.{Parm}
use Rattle.ckr_programs.specs.declared.state.ProgState.{ProgState}
use Rattle.ckr_programs.specs.Due.{due_at}

-- a program of at most one input
abbrev pub has_single_input : Kind → Bool
has_single_input Copy = true
has_single_input Select = true
has_single_input Print = true
has_single_input Br14 = true
has_single_input _ = false

abbrev pub first_state : Kind → ProgState
first_state program = record {
  kind = program;
  first = 0;
  second = 0;
  rejects = 0;
  entries = 0;
  checkpointed = false;
  cancelled = false;
  closed = false;
  sum = 0;
}

-- no record is rejected, so the return code is 0
abbrev pub due_in : Parm → ProgState → NextDue
due_in parm state = due_at parm (record {
  taken = state.first + state.second;
  checkpointed = state.checkpointed;
  cancelled = state.cancelled;
  closed = state.closed;
  return_code = 0;
})

-- the checkpoint that was due is done, and counted where an entry was written; or the cancel that was due is
abbrev pub served_state : NextDue → Bool → ProgState → ProgState
served_state Checkpoint written state =
    record state { checkpointed = true; entries = state.entries + (if written then 1 else 0) }
served_state Cancel written state = record state { cancelled = true }
served_state _ written state = state
