mod SameFacts
