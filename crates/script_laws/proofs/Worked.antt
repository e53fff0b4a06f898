use Rattle.std.proofs.Common.{refl}
use Rattle.script_laws.specs.WorkedScripts.{WorkedFaults, ReadScripts}

pub scripts : WorkedFaults
scripts = record {
  nobody = refl;
  exited = refl;
  awaited = refl;
  grandchild = refl;
  forked_twice = refl;
  forks_init = refl;
  kills_nobody = refl;
  traces_nobody = refl;
  elder_child = refl;
  child_of_another = refl;
  awaited_twice = refl;
  no_signal = refl;
  signal_32 = refl;
  no_way = refl;
  short_text = refl;
  no_verb = refl;
  task_before_name = refl;
  text_before_task = refl;
  no_locks = refl;
  no_unconfined = refl;
  no_exec = refl;
  deep_path = refl;
  zero_byte = refl;
  tab_in_task = refl;
  task_alone = refl;
  return_behind_task = refl;
  too_many_words = refl;
  words_behind_exit = refl;
  tab_between_words = refl;
  behind_a_comment = refl;
  return_behind_modes = refl;
  zero_in_front = refl;
  number_2_to_32 = refl;
  text_ends_early = refl;
  long_name = refl;
  long_file = refl;
}

pub good_scripts : ReadScripts
good_scripts = record {
  skipped_lines = refl;
  second_words = refl;
  texts = refl;
  third_words = refl;
  pids = refl;
  names = refl;
  longest_name = refl;
  longest_file = refl;
  most_tasks = refl;
  too_many_tasks = refl;
  labels_of_words_and_texts = refl;
  no_labels_of_bad_texts = refl;
}
