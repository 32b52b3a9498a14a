-- What slotplan tells of itself.
use Rattle.std.specs.Prelude.{ℕ, List, ◌++◌, codes}

-- the usage
abbrev pub plan_usage : List ℕ
plan_usage = codes "usage: slotplan load T | who T | header T | supply T | supply T D"

-- its help
abbrev pub plan_help : List ℕ
plan_help =
    codes "usage: slotplan load T | who T | header T | supply T | supply T D\n"
    ++ codes "       slotplan --help\n"
    ++ codes "       slotplan --version\n"
    ++ codes "\n"
    ++ codes "Tells what a designer asks of the task file T before run time. Times and\n"
    ++ codes "lengths are whole slots.\n"
    ++ codes "\n"
    ++ codes "words:\n"
    ++ codes "  load T      the slots of each task in a cycle, their sums, and the window with\n"
    ++ codes "              the least slack, whether the set fits or not\n"
    ++ codes "  who T       of a set that does not fit, the window that fails, and the jobs\n"
    ++ codes "              and arrivals inside it; of one that fits, the word within\n"
    ++ codes "  header T    a header for a program in C: indexes, worst cases, the bytes of an\n"
    ++ codes "              arena, and the table of the plan\n"
    ++ codes "  supply T    how many slots of a firm request are always accepted: lines\n"
    ++ codes "              supply WITHIN SLOTS FROM UNTIL, with a window that has no more;\n"
    ++ codes "              between two lines SLOTS rises by one a slot up to the next\n"
    ++ codes "  supply T D  the line for a deadline D slots ahead; far where that is past a\n"
    ++ codes "              cycle\n"
    ++ codes "\n"
    ++ codes "  T   a task file (TOML), at most 1048576 bytes\n"
    ++ codes "  D   a number of slots, from 1 to 65535\n"
    ++ codes "\n"
    ++ codes "statuses:\n"
    ++ codes "  0   done\n"
    ++ codes "  1   the words are no question\n"
    ++ codes "  2   T cannot be read\n"
    ++ codes "  3   T has too many bytes\n"
    ++ codes "  4   T has a fault\n"
    ++ codes "  5   T does not fit, so that there is no header and no supply: a window has\n"
    ++ codes "      more demand than slots\n"
    ++ codes "  7   standard output takes no more\n"
    ++ codes "  8   memory ran out\n"
