-- A purse with a PIN: a whole draft, and its texts as another implementation writes them.
use Rattle.std.specs.Prelude.{ℕ, List, ◌++◌, codes}

-- the draft
abbrev pub purse_draft : List ℕ
purse_draft =
    codes "# A purse with a PIN and a protected debit.\nformat\npower\napp purse A000000100\n" ++
    codes "STATIC balance 2 03E8\nSTATIC tries 1 03          ; tries that are left\nSTATIC pin 2 1234\n" ++
    codes "STATIC debits 2\nSESSION shown 1            ; 1 once the PIN was shown\nPUBLIC amount 0 2\n" ++
    codes "PUBLIC guess 0 2\nCONST not_shown 0x6982\nCONST blocked 0x6983\nCONST poor 0x6985\n" ++
    codes "CONST wrong_length 0x6700\n        CMPB INS,0x20\n        JUMP EQ,show\n        CMPB INS,0x40\n" ++
    codes "        JUMP EQ,debit\n        CMPB INS,0x50\n        JUMP EQ,balance\n        EXITSW 0x6D00\n" ++
    codes "balance: LOAD balance\n        STORE PB[0],balance.size\n        EXITLA balance.size\n" ++
    codes "show:   CMPW Lc,2\n        JUMP NE,length\n        TESTN tries\n        JUMP EQ,locked\n" ++
    codes "        DECN tries              ; the try is spent before the PIN is looked at\n        LOAD guess\n" ++
    codes "        CMPN pin\n        POPN guess.size         ; flags stay\n        JUMP NE,denied\n" ++
    codes "        SETB tries,3\n        SETB shown,1\n        EXIT\ndebit:  CMPB shown,1\n" ++
    codes "        JUMP NE,denied\n        CMPW Lc,amount.size\n        JUMP NE,length\n        LOAD amount\n" ++
    codes "        CMPN balance\n        JUMP LT,over\n        PRIM 3,2\n        SUBN balance\n" ++
    codes "        INCN debits\n        POPN amount.size\n        PRIM 3,1\n        JUMP ALL,balance\n" ++
    codes "over:   POPN amount.size\n        EXITSW poor\ndenied: EXITSW not_shown\nlocked: EXITSW blocked\n" ++
    codes "length: EXITSW wrong_length\nend\nload purse\n#> 9000\nselect purse\n#> 9000\n" ++
    codes "apdu 80 40 0000 (0064)\n#> 6982\napdu 80 20 0000 (1234)\n#> 9000\napdu 80 40 0000 (0064) 02\n" ++
    codes "#> 0384 9000\ndump purse\n#> static 0384 03 1234 0001\n"

-- its deck
abbrev pub purse_deck : List ℕ
purse_deck =
    codes "# A purse with a PIN and a protected debit.\nformat\npower\napp purse A000000100\nDATA 03E8\n" ++
    codes "DATA 03\nDATA 1234\n\n\n\n\n\n\n\n\n        CMPB PT[-12],0x20\n        JUMP EQ,show\n" ++
    codes "        CMPB PT[-12],0x40\n        JUMP EQ,debit\n        CMPB PT[-12],0x50\n" ++
    codes "        JUMP EQ,balance\n        EXITSW 0x6D00\nbalance: LOAD SB[0],2\n        STORE PB[0],2\n" ++
    codes "        EXITLA 2\nshow:   CMPW PT[-8],2\n        JUMP NE,length\n        TESTN SB[2],1\n" ++
    codes "        JUMP EQ,locked\n" ++
    codes "        DECN SB[2],1              ; the try is spent before the PIN is looked at\n" ++
    codes "        LOAD PB[0],2\n        CMPN SB[3],2\n        POPN 2         ; flags stay\n" ++
    codes "        JUMP NE,denied\n        SETB SB[2],3\n        SETB DB[0],1\n        EXIT\n" ++
    codes "debit:  CMPB DB[0],1\n        JUMP NE,denied\n        CMPW PT[-8],2\n        JUMP NE,length\n" ++
    codes "        LOAD PB[0],2\n        CMPN SB[0],2\n        JUMP LT,over\n        PRIM 3,2\n" ++
    codes "        SUBN SB[0],2\n        INCN SB[5],2\n        POPN 2\n        PRIM 3,1\n" ++
    codes "        JUMP ALL,balance\nover:   POPN 2\n        EXITSW 0x6985\ndenied: EXITSW 0x6982\n" ++
    codes "locked: EXITSW 0x6983\nlength: EXITSW 0x6700\nend\nload purse 7 1\n#> 9000\nselect A000000100\n" ++
    codes "#> 9000\napdu 80400000020064\n#> 6982\napdu 80200000021234\n#> 9000\napdu 8040000002006402\n" ++
    codes "#> 0384 9000\ndump A000000100\n#> static 0384 03 1234 0001\n"

-- its listing
abbrev pub purse_listing : List ℕ
purse_listing =
    codes "app purse A000000100 code 135 static 7 session 1\n0000 7720FFF4 16 CMPB INS,0x20\n" ++
    codes "0004 110023 17 JUMP EQ,show\n0007 7740FFF4 18 CMPB INS,0x40\n000B 11004C 19 JUMP EQ,debit\n" ++
    codes "000E 7750FFF4 20 CMPB INS,0x50\n0012 110018 21 JUMP EQ,balance\n0015 056D00 22 EXITSW 0x6D00\n" ++
    codes "0018 39020000 23 balance: LOAD balance\n001C 46020000 24 STORE PB[0],balance.size\n" ++
    codes "0020 060002 25 EXITLA balance.size\n0023 970002FFF8 26 show:   CMPW Lc,2\n" ++
    codes "0028 160084 27 JUMP NE,length\n002B B1010002 28 TESTN tries\n002F 110081 29 JUMP EQ,locked\n" ++
    codes "0032 C1010002 30 DECN tries\n0036 3E020000 31 LOAD guess\n003A D1020003 32 CMPN pin\n" ++
    codes "003E 2402 33 POPN guess.size\n0040 16007E 34 JUMP NE,denied\n0043 69030002 35 SETB tries,3\n" ++
    codes "0047 6B010000 36 SETB shown,1\n004B 04 37 EXIT\n004C 73010000 38 debit:  CMPB shown,1\n" ++
    codes "0050 16007E 39 JUMP NE,denied\n0053 970002FFF8 40 CMPW Lc,amount.size\n" ++
    codes "0058 160084 41 JUMP NE,length\n005B 3E020000 42 LOAD amount\n005F D1020000 43 CMPN balance\n" ++
    codes "0063 120079 44 JUMP LT,over\n0066 290302 45 PRIM 3,2\n0069 E1020000 46 SUBN balance\n" ++
    codes "006D B9020005 47 INCN debits\n0071 2402 48 POPN amount.size\n0073 290301 49 PRIM 3,1\n" ++
    codes "0076 170018 50 JUMP ALL,balance\n0079 2402 51 over:   POPN amount.size\n007B 056985 52 EXITSW poor\n" ++
    codes "007E 056982 53 denied: EXITSW not_shown\n0081 056983 54 locked: EXITSW blocked\n" ++
    codes "0084 056700 55 length: EXITSW wrong_length\n"

-- the line of its verdict
abbrev pub purse_verdicts : List ℕ
purse_verdicts =
    codes "57 accept 2\n"

-- its trace on a blank device
abbrev pub purse_trace : List ℕ
purse_trace =
    codes "2 formatted\n3 ready 0\n57 9000\n59 9000\n" ++
    codes "> 1 0000 CMPB PT[-12],32 8001 00 ; 16 CMPB INS,0x20 ; 40 -\n" ++
    codes "> 1 0004 JUMP EQ,0x0023 8001 00 ; 17 JUMP EQ,show ; - -\n" ++
    codes "> 1 0007 CMPB PT[-12],64 8001 01 ; 18 CMPB INS,0x40 ; 40 -\n" ++
    codes "> 1 000B JUMP EQ,0x004C 8001 01 ; 19 JUMP EQ,debit ; - -\n" ++
    codes "> 1 004C CMPB DB[0],1 8001 10 ; 38 debit:  CMPB shown,1 ; 00 -\n" ++
    codes "> 1 0050 JUMP NE,0x007E 8001 10 ; 39 JUMP NE,denied ; - -\n" ++
    codes "> 1 007E EXITSW 0x6982 8001 10 ; 53 denied: EXITSW not_shown ; - -\n61 6982\n" ++
    codes "> 1 0000 CMPB PT[-12],32 8001 01 ; 16 CMPB INS,0x20 ; 20 -\n" ++
    codes "> 1 0004 JUMP EQ,0x0023 8001 01 ; 17 JUMP EQ,show ; - -\n" ++
    codes "> 1 0023 CMPW PT[-8],0x0002 8001 01 ; 26 show:   CMPW Lc,2 ; 0002 -\n" ++
    codes "> 1 0028 JUMP NE,0x0084 8001 01 ; 27 JUMP NE,length ; - -\n" ++
    codes "> 1 002B TESTN SB[2],1 8001 00 ; 28 TESTN tries ; 03 -\n" ++
    codes "> 1 002F JUMP EQ,0x0081 8001 00 ; 29 JUMP EQ,locked ; - -\n" ++
    codes "> 1 0032 DECN SB[2],1 8001 00 ; 30 DECN tries ; 02 -\n" ++
    codes "> 1 0036 LOAD PB[0],2 8003 00 ; 31 LOAD guess ; 1234 1234\n" ++
    codes "> 1 003A CMPN SB[3],2 8003 01 ; 32 CMPN pin ; 1234 1234\n" ++
    codes "> 1 003E POPN 2 8001 01 ; 33 POPN guess.size ; - -\n" ++
    codes "> 1 0040 JUMP NE,0x007E 8001 01 ; 34 JUMP NE,denied ; - -\n" ++
    codes "> 1 0043 SETB SB[2],3 8001 01 ; 35 SETB tries,3 ; 03 -\n" ++
    codes "> 1 0047 SETB DB[0],1 8001 01 ; 36 SETB shown,1 ; 01 -\n> 1 004B EXIT 8001 01 ; 37 EXIT ; - -\n" ++
    codes "63 9000\n> 1 0000 CMPB PT[-12],32 8001 00 ; 16 CMPB INS,0x20 ; 40 -\n" ++
    codes "> 1 0004 JUMP EQ,0x0023 8001 00 ; 17 JUMP EQ,show ; - -\n" ++
    codes "> 1 0007 CMPB PT[-12],64 8001 01 ; 18 CMPB INS,0x40 ; 40 -\n" ++
    codes "> 1 000B JUMP EQ,0x004C 8001 01 ; 19 JUMP EQ,debit ; - -\n" ++
    codes "> 1 004C CMPB DB[0],1 8001 01 ; 38 debit:  CMPB shown,1 ; 01 -\n" ++
    codes "> 1 0050 JUMP NE,0x007E 8001 01 ; 39 JUMP NE,denied ; - -\n" ++
    codes "> 1 0053 CMPW PT[-8],0x0002 8001 01 ; 40 CMPW Lc,amount.size ; 0002 -\n" ++
    codes "> 1 0058 JUMP NE,0x0084 8001 01 ; 41 JUMP NE,length ; - -\n" ++
    codes "> 1 005B LOAD PB[0],2 8003 01 ; 42 LOAD amount ; 0064 0064\n" ++
    codes "> 1 005F CMPN SB[0],2 8003 00 ; 43 CMPN balance ; 03E8 0064\n" ++
    codes "> 1 0063 JUMP LT,0x0079 8003 00 ; 44 JUMP LT,over ; - 0064\n" ++
    codes "> 1 0066 PRIM 3,2 8003 00 ; 45 PRIM 3,2 ; - 0064\n" ++
    codes "> 1 0069 SUBN SB[0],2 8003 00 ; 46 SUBN balance ; 0384 0064\n" ++
    codes "> 1 006D INCN SB[5],2 8003 00 ; 47 INCN debits ; 0001 0064\n" ++
    codes "> 1 0071 POPN 2 8001 00 ; 48 POPN amount.size ; - -\n> 1 0073 PRIM 3,1 8001 00 ; 49 PRIM 3,1 ; - -\n" ++
    codes "> 1 0076 JUMP ALL,0x0018 8001 00 ; 50 JUMP ALL,balance ; - -\n" ++
    codes "> 1 0018 LOAD SB[0],2 8003 00 ; 23 balance: LOAD balance ; 0384 0384\n" ++
    codes "> 1 001C STORE PB[0],2 8001 00 ; 24 STORE PB[0],balance.size ; 0384 -\n" ++
    codes "> 1 0020 EXITLA 0x0002 8001 00 ; 25 EXITLA balance.size ; - -\n65 03849000\n" ++
    codes "67 static 03840312340001\n"

-- its LCOV record on a blank device
abbrev pub purse_record : List ℕ
purse_record =
    codes "TN:\nSF:purse.draft\nDA:16,3\nDA:17,3\nDA:18,2\nDA:19,2\nDA:20,0\nDA:21,0\nDA:22,0\nDA:23,1\n" ++
    codes "DA:24,1\nDA:25,1\nDA:26,1\nDA:27,1\nDA:28,1\nDA:29,1\nDA:30,1\nDA:31,1\nDA:32,1\nDA:33,1\nDA:34,1\n" ++
    codes "DA:35,1\nDA:36,1\nDA:37,1\nDA:38,2\nDA:39,2\nDA:40,1\nDA:41,1\nDA:42,1\nDA:43,1\nDA:44,1\nDA:45,1\n" ++
    codes "DA:46,1\nDA:47,1\nDA:48,1\nDA:49,1\nDA:50,1\nDA:51,0\nDA:52,0\nDA:53,1\nDA:54,0\nDA:55,0\n" ++
    codes "BRDA:17,0,0,1\nBRDA:17,0,1,2\nBRDA:19,0,0,2\nBRDA:19,0,1,0\nBRDA:21,0,0,-\nBRDA:21,0,1,-\n" ++
    codes "BRDA:27,0,0,0\nBRDA:27,0,1,1\nBRDA:29,0,0,0\nBRDA:29,0,1,1\nBRDA:34,0,0,0\nBRDA:34,0,1,1\n" ++
    codes "BRDA:39,0,0,1\nBRDA:39,0,1,1\nBRDA:41,0,0,0\nBRDA:41,0,1,1\nBRDA:44,0,0,0\nBRDA:44,0,1,1\nBRF:18\n" ++
    codes "BRH:10\nLF:40\nLH:33\nend_of_record\n"
