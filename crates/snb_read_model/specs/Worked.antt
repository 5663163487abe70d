-- Worked rows: answers over the small network, and two more small graphs.
use Rattle.std.specs.Prelude.{ℕ, List, [], ◌∷◌, codes, pos, negsuc, true, false}
use Rattle.snb_schema.specs.declared.row.Row.{Row}
use Rattle.snb_schema.specs.declared.row.Row.TheVariants as row
use Rattle.snb_schema.specs.declared.table.Table.TheVariants as table
use Rattle.snb_read_model.specs.declared.cell.Cell.TheVariants.{Flag, Number, Words}
use Rattle.snb_read_model.specs.Cells.{ByteCell, number_cell}

-- ["Ann","Lee",0,"1.1.1.1","Firefox",1,"female",1000]
abbrev pub profile_of_ann : List ByteCell
profile_of_ann =
    Words (codes "Ann") ∷ Words (codes "Lee") ∷ number_cell 0 ∷ Words (codes "1.1.1.1")
    ∷ Words (codes "Firefox") ∷ number_cell 1 ∷ Words (codes "female")
    ∷ number_cell 1000 ∷ []

-- [31,"Yo",6000,30,10,"Ann","Lee"]
abbrev pub recent_of_bob : List ByteCell
recent_of_bob =
    number_cell 31 ∷ Words (codes "Yo") ∷ number_cell 6000 ∷ number_cell 30 ∷ number_cell 10
    ∷ Words (codes "Ann") ∷ Words (codes "Lee") ∷ []

-- [11,"Bob","Ray",3000]
abbrev pub friend_of_ann : List ByteCell
friend_of_ann = number_cell 11 ∷ Words (codes "Bob") ∷ Words (codes "Ray") ∷ number_cell 3000 ∷ []

-- [20,"Wall",10,"Ann","Lee"]
abbrev pub forum_of_comment : List ByteCell
forum_of_comment =
    number_cell 20 ∷ Words (codes "Wall") ∷ number_cell 10 ∷ Words (codes "Ann")
    ∷ Words (codes "Lee") ∷ []

-- [31,"Yo",6000,11,"Bob","Ray",true]
abbrev pub reply_to_post : List ByteCell
reply_to_post =
    number_cell 31 ∷ Words (codes "Yo") ∷ number_cell 6000 ∷ number_cell 11 ∷ Words (codes "Bob")
    ∷ Words (codes "Ray") ∷ Flag true ∷ []

-- a person of this id and name
abbrev pub person : ℕ → List ℕ → List ℕ → Row
person id first last =
    row.Person
    (record {
      id = id;
      first_name = first;
      last_name = last;
      gender = [];
      birthday = 0;
      creation_date = 0;
      location_ip = [];
      browser_used = [];
    })

-- a post of this id and content, of the date 5000
abbrev pub post : ℕ → List ℕ → Row
post id content =
    row.Post (record {
      id = id;
      image_file = [];
      creation_date = 5000;
      location_ip = [];
      browser_used = [];
      language = [];
      content = content;
      length = 2;
    })

-- likes of two posts of person 10 by a friend, twice, and by two others
abbrev pub liked_posts : List Row
liked_posts =
    person 10 (codes "Ann") (codes "Lee")
    ∷ person 11 (codes "Bob") (codes "Ray")
    ∷ person 12 (codes "Cy") (codes "Fox")
    ∷ person 13 (codes "Di") (codes "Orr")
    ∷ post 30 (codes "Hi")
    ∷ post 35 (codes "Ho")
    ∷ row.Dated table.PersonKnowsPerson 10 11 3000
    ∷ row.Dated table.PersonLikesPost 11 30 64999
    ∷ row.Dated table.PersonLikesPost 11 35 64999
    ∷ row.Dated table.PersonLikesPost 12 35 65000
    ∷ row.Dated table.PersonLikesPost 13 30 4999
    ∷ row.Link table.PostHasCreatorPerson 30 10
    ∷ row.Link table.PostHasCreatorPerson 35 10
    ∷ []

-- [11,"Bob","Ray",64999,30,"Hi",0,false]
abbrev pub like_of_bob : List ByteCell
like_of_bob =
    number_cell 11 ∷ Words (codes "Bob") ∷ Words (codes "Ray") ∷ number_cell 64999 ∷ number_cell 30
    ∷ Words (codes "Hi") ∷ Number (pos 0) ∷ Flag false ∷ []

-- [12,"Cy","Fox",65000,35,"Ho",1,true]
abbrev pub like_of_cy : List ByteCell
like_of_cy =
    number_cell 12 ∷ Words (codes "Cy") ∷ Words (codes "Fox") ∷ number_cell 65000 ∷ number_cell 35
    ∷ Words (codes "Ho") ∷ Number (pos 1) ∷ Flag true ∷ []

-- [13,"Di","Orr",4999,30,"Hi",-1,true]
abbrev pub like_of_di : List ByteCell
like_of_di =
    number_cell 13 ∷ Words (codes "Di") ∷ Words (codes "Orr") ∷ number_cell 4999 ∷ number_cell 30
    ∷ Words (codes "Hi") ∷ Number (negsuc 0) ∷ Flag true ∷ []

-- persons 10 to 15, of whom 10, 11, 12 and 13 stand in a ring, 14 knows 13, and 15 knows nobody
abbrev pub ring : List Row
ring =
    person 10 [] []
    ∷ person 11 [] []
    ∷ person 12 [] []
    ∷ person 13 [] []
    ∷ person 14 [] []
    ∷ person 15 [] []
    ∷ row.Dated table.PersonKnowsPerson 10 11 0
    ∷ row.Dated table.PersonKnowsPerson 10 13 0
    ∷ row.Dated table.PersonKnowsPerson 11 12 0
    ∷ row.Dated table.PersonKnowsPerson 12 13 0
    ∷ row.Dated table.PersonKnowsPerson 13 14 0
    ∷ []
