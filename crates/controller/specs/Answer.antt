-- How the program keeps an answer until it is written: its status and its text.
use Rattle.std.specs.Prelude.{ℕ, List}
use Rattle.path_blocks.specs.Path.{path_of}
use Rattle.run_log.specs.declared.entry.Ending.{Ending}
use Rattle.run_log.specs.declared.entry.Ending.TheVariants as endings
use Rattle.run_log.specs.LogText.{text_of}
use Rattle.run_log.specs.BlocksText.{blocks_text}
use Rattle.controller.specs.declared.answer.Answer.{Answer}
use Rattle.controller.specs.declared.answer.Answer.TheVariants.{BadWords, Help, Version, Refused, ScriptRefused, Ran, Shown, Counted, Legal, Illegal, LogRefused}
use Rattle.controller.specs.declared.status.Status.{Status}
use Rattle.controller.specs.declared.status.Status.TheVariants as statuses
use Rattle.controller.specs.Texts.{bad_words_line, legal_line, illegal_line, help_text, version_text}
use Rattle.controller.specs.Refusal.{refusal_line, script_line, log_line}
use Rattle.controller.specs.Counts.{counts_line}

-- the bytes that say an answer
abbrev pub answer_text : Answer → List ℕ
answer_text (BadWords place) = bad_words_line place
answer_text Help = help_text
answer_text Version = version_text
answer_text (Refused reason) = refusal_line reason
answer_text (ScriptRefused reason) = script_line reason
answer_text (Ran t ending) = text_of t ending
answer_text (Shown d) = blocks_text (path_of d)
answer_text (Counted steps start ending counts) = counts_line steps start ending counts
answer_text (Legal ending) = legal_line ending
answer_text (Illegal place) = illegal_line place
answer_text (LogRefused reason) = log_line reason

abbrev pub ending_status : Ending → Status
ending_status endings.Done = statuses.Done
ending_status endings.Blocked = statuses.Blocked
ending_status endings.Limit = statuses.RunLimit

-- the status of an answer that is written
abbrev pub answer_status : Answer → Status
answer_status (BadWords place) = statuses.BadWords place
answer_status Help = statuses.Written
answer_status Version = statuses.Written
answer_status (Refused reason) = statuses.ProjectRefused reason
answer_status (ScriptRefused reason) = statuses.ScriptRefused reason
answer_status (Ran t ending) = ending_status ending
answer_status (Shown d) = statuses.Written
answer_status (Counted steps start ending counts) = statuses.Written
answer_status (Legal ending) = statuses.Written
answer_status (Illegal place) = statuses.Illegal place
answer_status (LogRefused reason) = statuses.LogRefused reason
