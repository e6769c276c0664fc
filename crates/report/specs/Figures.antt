-- "The listing program": the text of its sheet, whole, and of the same bytes with one after them. What the rules give, and what document 01 says.
use Rattle.std.specs.Prelude.{List, [], ◌∷◌, ◌++◌, ℕ}
use Rattle.line.specs.Letters.{letters}
use Rattle.sizing.specs.Figures.{document}
use Rattle.report.specs.Listing.{listing_of}

abbrev pub given : List (List ℕ)
given = listing_of document ∷ listing_of (document ++ (0 ∷ [])) ∷ []

-- "Output, whole"; and "refused NUMBER at PLACE": "bytes after the last link", 10, at "the first", 46
abbrev pub said : List (List ℕ)
said =
    letters "clock 0 open -2 0 5 3\nclock 1 open 5 9 5 3\nclock 2 closed 3 4 5 2\nlink 0 0 1 open accepted 2\nlink 1 1 0 open early 0\nlink 2 0 2 closed rates 0\nroom 2 2\n"
    ∷ letters "refused 10 at 46\n"
    ∷ []
