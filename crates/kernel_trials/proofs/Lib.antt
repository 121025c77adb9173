mod WorkedMacs
