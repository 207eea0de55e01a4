-- The texts that the program writes beside logs.
use Rattle.std.specs.Prelude.{ℕ, List, [], ◌∷◌, ◌++◌, codes, decimal}
use Rattle.run_log.specs.declared.entry.Ending.{Ending}
use Rattle.run_log.specs.LogText.{ending_word}

-- a line of this text
abbrev pub row : List ℕ → List ℕ
row text = text ++ codes "\n"

-- lines of these texts
abbrev pub rows : List (List ℕ) → List ℕ
rows [] = []
rows (text ∷ texts) = row text ++ rows texts

-- the line of words that are bad at a place
abbrev pub bad_words_line : ℕ → List ℕ
bad_words_line place = row (codes "refused BadWords " ++ decimal place)

-- the line of a log that is legal with this ending
abbrev pub legal_line : Ending → List ℕ
legal_line ending = row (codes "legal " ++ ending_word ending)

-- the line of a log that is illegal at a place
abbrev pub illegal_line : ℕ → List ℕ
illegal_line place = row (codes "illegal " ++ decimal place)

-- the commands with their words, an example, and the exit statuses
abbrev pub help_text : List ℕ
help_text =
    rows (codes "stepnc runs a STEP-NC project and writes its run log."
    ∷ []
    ∷ codes "  stepnc replay PROJECT SCRIPT SCHEDULE LIMIT"
    ∷ codes "      runs the project in the file PROJECT, up to LIMIT entries (1 to 2000000);"
    ∷ codes "      SCRIPT is a file of edits that are judged on the way, or -;"
    ∷ codes "      SCHEDULE is a file that says which channel has the next turn, or -"
    ∷ codes "  stepnc path PROJECT STEP"
    ∷ codes "      writes the path of workingstep STEP, one block a line"
    ∷ codes "  stepnc big STEPS START"
    ∷ codes "      makes a project of STEPS workingsteps (1 to 1000) and a script of edits, drawn"
    ∷ codes "      from START (0 to 9999999) on, runs them, and writes what their log counts"
    ∷ codes "  stepnc check PROJECT SCRIPT LOG"
    ∷ codes "      says whether the file LOG holds a legal run of the project and the script"
    ∷ codes "  stepnc --help"
    ∷ codes "      writes this text"
    ∷ codes "  stepnc --version"
    ∷ codes "      writes the version"
    ∷ []
    ∷ codes "For example: stepnc replay examples/drilled_hole.stp - - 100"
    ∷ []
    ∷ codes "Exit status: 0 done or written, 1 blocked, 2 stopped at the limit, 3 bad words,"
    ∷ codes "4 project refused, 5 script or schedule refused, 6 log illegal or refused,"
    ∷ codes "7 file not read, 8 output not taken, 9 out of memory."
    ∷ [])

abbrev pub version_text : List ℕ
version_text = row (codes "stepnc 0.1.0")
