use Rattle.std.specs.Prelude.{Option, Some, None, Result, Ok, Err}
use Rattle.std.specs.Option.{option_map}
use Rattle.file_spec.specs.declared.Refusal.{Refusal}
use Rattle.file_spec.specs.declared.Compiled.{Compiled}
use Rattle.world_spec.specs.declared.tasks.TaskCall.{TaskCall}

-- what is made of one word, and of three, where each is of its kind
abbrev pub of_one : {A C : Type 0} → Option A → (A → C) → Option C
of_one a make = option_map make a

abbrev pub of_three : {A B C D : Type 0} → Option A → Option B → Option C → (A → B → C → D) → Option D
of_three None b c make = None
of_three (Some x) None c make = None
of_three (Some x) (Some y) c make = of_one c (make x y)

-- the call on the writing task that a text is, where its file accepts it
abbrev pub file_call : Result Compiled Refusal → Option TaskCall
file_call (Ok (Compiled.Rules ops)) = None
file_call (Ok (Compiled.SelfRules rules)) = Some (TaskCall.SelfRules rules)
file_call (Ok (Compiled.Relabels list)) = Some (TaskCall.Relabels list)
file_call (Err fault) = None
