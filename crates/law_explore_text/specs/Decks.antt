-- A purse whose PIN is compared at most three times between two right guesses, and debits only after a right one; and
-- one that counts a guess after the comparison.
use Rattle.std.specs.Prelude.{ℕ, List, ◌++◌, codes}

-- a purse that counts a guess before it compares it, and its rules
abbrev pub pin_deck : List ℕ
pin_deck =
    codes "format\npower\napp purse A000000100\nDATA 03E8\nDATA 03\nDATA 1234\n CMPB PT[-12],0x20\n" ++
    codes " JUMP EQ,show\n CMPB PT[-12],0x40\n JUMP EQ,debit\n CMPB PT[-12],0x50\n JUMP EQ,balance\n" ++
    codes " EXITSW 0x6D00\nbalance: LOAD SB[0],2\n STORE PB[0],2\n EXITLA 2\nshow:   CMPW PT[-8],2\n" ++
    codes " JUMP NE,length\n TESTN SB[2],1\n JUMP EQ,locked\n DECN SB[2],1\n LOAD PB[0],2\n CMPN SB[3],2\n" ++
    codes " POPN 2\n JUMP NE,denied\n SETB SB[2],3\n SETB DB[0],1\n EXIT\ndebit:  CMPB DB[0],1\n" ++
    codes " JUMP NE,denied\n CMPW PT[-8],2\n JUMP NE,length\n LOAD PB[0],2\n CMPN SB[0],2\n JUMP LT,over\n" ++
    codes " PRIM 3,2\n SUBN SB[0],2\n INCN SB[5],2\n POPN 2\n PRIM 3,1\n JUMP ALL,balance\nover:   POPN 2\n" ++
    codes " EXITSW 0x6985\ndenied: EXITSW 0x6982\nlocked: EXITSW 0x6983\nlength: EXITSW 0x6700\nend\n" ++
    codes "load purse 7 1\nselect A000000100\n#@ move select A000000100\n#@ move apdu 80200000021234\n" ++
    codes "#@ move apdu 80200000029999\n#@ move apdu 8040000002006402\n#@ move power\n#@ allow guesses 3\n" ++
    codes "#@ on apdu 8020* turns *CMPN SB[3],2*0 spend guesses 1\n" ++
    codes "#@ on apdu 8020* turns *CMPN SB[3],2*1 allow guesses 3\n#@ allow debits 0\n" ++
    codes "#@ on select* gives * allow debits 0\n#@ on power gives * allow debits 0\n" ++
    codes "#@ on apdu 8020* turns *CMPN SB[3],2*1 allow debits 1000\n" ++
    codes "#@ on apdu 8040* gives ????9000 spend debits 1\n#@ on * gives off* allow debits 0\n"

-- the same, but a wrong guess is counted after the comparison
abbrev pub late_deck : List ℕ
late_deck =
    codes "format\npower\napp purse A000000100\nDATA 03E8\nDATA 03\nDATA 1234\n CMPB PT[-12],0x20\n" ++
    codes " JUMP EQ,show\n CMPB PT[-12],0x40\n JUMP EQ,debit\n CMPB PT[-12],0x50\n JUMP EQ,balance\n" ++
    codes " EXITSW 0x6D00\nbalance: LOAD SB[0],2\n STORE PB[0],2\n EXITLA 2\nshow:   CMPW PT[-8],2\n" ++
    codes " JUMP NE,length\n TESTN SB[2],1\n JUMP EQ,locked\n LOAD PB[0],2\n CMPN SB[3],2\n POPN 2\n" ++
    codes " JUMP NE,denied\n SETB SB[2],3\n SETB DB[0],1\n EXIT\ndebit:  CMPB DB[0],1\n JUMP NE,denied2\n" ++
    codes " CMPW PT[-8],2\n JUMP NE,length\n LOAD PB[0],2\n CMPN SB[0],2\n JUMP LT,over\n PRIM 3,2\n" ++
    codes " SUBN SB[0],2\n INCN SB[5],2\n POPN 2\n PRIM 3,1\n JUMP ALL,balance\nover:   POPN 2\n" ++
    codes " EXITSW 0x6985\ndenied: DECN SB[2],1\n EXITSW 0x6982\ndenied2: EXITSW 0x6982\n" ++
    codes "locked: EXITSW 0x6983\nlength: EXITSW 0x6700\nend\nload purse 7 1\nselect A000000100\n" ++
    codes "#@ move select A000000100\n#@ move apdu 80200000021234\n#@ move apdu 80200000029999\n" ++
    codes "#@ move apdu 8040000002006402\n#@ move power\n#@ allow guesses 3\n" ++
    codes "#@ on apdu 8020* turns *CMPN SB[3],2*0 spend guesses 1\n" ++
    codes "#@ on apdu 8020* turns *CMPN SB[3],2*1 allow guesses 3\n#@ allow debits 0\n" ++
    codes "#@ on select* gives * allow debits 0\n#@ on power gives * allow debits 0\n" ++
    codes "#@ on apdu 8020* turns *CMPN SB[3],2*1 allow debits 1000\n" ++
    codes "#@ on apdu 8040* gives ????9000 spend debits 1\n#@ on * gives off* allow debits 0\n"

-- an application of some lines of assembly, loaded with these numbers of static and session bytes, and selected, and a
-- move of it
abbrev pub app_deck : List ℕ → List ℕ → List ℕ
app_deck program sizes =
    codes "format\npower\napp a A000000001\n" ++ program ++ codes "end\nload a " ++ sizes ++ codes "\nselect A000000001\n#@ move apdu 8001000000\n"

-- one that counts in its static bytes
abbrev pub counter_deck : List ℕ
counter_deck = app_deck (codes "INCN SB[0],2\nEXIT\n") (codes "2 0")

-- one that does nothing
abbrev pub idle_deck : List ℕ
idle_deck = app_deck (codes "EXIT\n") (codes "0 0")

-- one that counts in its session bytes, and refuses from the second command on
abbrev pub session_deck : List ℕ
session_deck = app_deck (codes "CMPB DB[0],1\nJUMP EQ,no\nSETB DB[0],1\nEXIT\nno: EXITSW 0x6F00\n") (codes "0 1")

-- one that counts twice in each command
abbrev pub twice_deck : List ℕ
twice_deck = app_deck (codes "INCN SB[0],1\nINCN SB[1],1\nEXIT\n") (codes "2 0")

-- an allowance that is never spent, and a rule that applies to each try
abbrev pub quiet_rule : List ℕ
quiet_rule = codes "#@ allow quiet 0\n#@ on * gives * allow quiet 0\n"
