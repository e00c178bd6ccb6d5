-- What an entry begins with: whose point it is, and how far the step was.
use Rattle.std.specs.Prelude.{ℕ, List, ◌++◌}
use Rattle.ckr_fields.specs.Readers.{Reading}
use Rattle.ckr_fields.specs.Fields.{Field, byte, four_bytes, ◌&◌, name8, check_id, seen_at}
use Rattle.ckr_entry.specs.declared.head.Head.{Head}
use Rattle.ckr_entry.specs.Numbers.{number}

-- `CKPT` as a number of four bytes
abbrev pub mark_number : ℕ
mark_number = 1129009236

-- an entry begins with `CKPT`
abbrev pub opening : Field ℕ
opening = number mark_number mark_number

-- the identifier, the job, the run and its owner, the step and its name, the job's entries, the records taken and the writes
abbrev pub HeadParts : Type 0
HeadParts = List ℕ × (List ℕ × (ℕ × (ℕ × (ℕ × (List ℕ × (ℕ × (ℕ × ℕ)))))))

abbrev pub head_parts : Field HeadParts
head_parts = check_id & name8 & four_bytes & four_bytes & byte & name8 & number 1 9999999 & four_bytes & number 0 3000000

abbrev pub parts_of_head : Head → HeadParts
parts_of_head h = (h.id, (h.job, (h.run, (h.owner, (h.step, (h.step_name, (h.count, (h.taken, h.writes))))))))

abbrev pub head_of : HeadParts → Head
head_of x = record {
  id = x.0;
  job = x.1.0;
  run = x.1.1.0;
  owner = x.1.1.1.0;
  step = x.1.1.1.1.0;
  step_name = x.1.1.1.1.1.0;
  count = x.1.1.1.1.1.1.0;
  taken = x.1.1.1.1.1.1.1.0;
  writes = x.1.1.1.1.1.1.1.1;
}

unfoldable pub head_at : List ℕ → Reading Head
head_at = seen_at (λ x. head_of x.1) (opening & head_parts).read

abbrev pub head : Field Head
head = record {
  fits = λ h. head_parts.fits (parts_of_head h);
  spell = λ h. opening.spell mark_number ++ head_parts.spell (parts_of_head h);
  read = head_at;
}
